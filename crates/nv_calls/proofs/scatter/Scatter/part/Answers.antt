use Rattle.std.proofs.Common.{◌≡◌, ◌+◌, ◌-◌, ◌<◌, ◌≤◌, [], List, ℕ, take, drop, length, get_or, min, sym, ap, ap₂, ◌∙◌, arith}
use Rattle.std.specs.List.{sum}
use Rattle.std.proofs.lemmas.List.{get_or-take, length-take, take-take}
use Rattle.std.proofs.lemmas.List.Sums.{sum_by-take-le}
use Rattle.nv_plain.specs.Calls.{filled}
use Rattle.nv_calls.proofs.FilledLemmas.{get_or-filled, slice-take}
use Rattle.nv_calls.proofs.scatter.Scatter.part.Goals as goal

pub start-from-requires : goal.start-from-requires
start-from-requires c =
    let m = c.self.inside in
    let is : length (take m.count m.lens) ≡ length c.args.self.now.lens = ap (λ s. length s.lens) c.self.view_is in
    let there : c.args.i ≤ m.count = omega (arith, is, length-take m.count m.lens, c.requires) in
    let front = sum_by-take-le (λ x. x) (take m.count m.lens) c.args.i in
    let same : sum (take c.args.i (take m.count m.lens)) ≡ sum (take c.args.i m.lens) = ap sum (take-take c.args.i m.count m.lens there) in
    omega (arith, front, same, c.self.invariant.2, c.len.ensures)

pub returns : goal.returns
returns c =
    let m = c.self.inside in
    let i = c.args.i in
    let lens = take m.count m.lens in
    let is : length lens ≡ length c.args.self.now.lens = ap (λ s. length s.lens) c.self.view_is in
    let there : i < length lens = omega (arith, is, c.requires) in
    let low : i < m.count = omega (arith, there, length-take m.count m.lens) in
    let from : c.start-from.result ≡ sum (take i m.lens) = c.start-from.ensures in
    let before : sum (take i lens) ≡ sum (take i m.lens) = ap sum (take-take i m.count m.lens (omega (arith, low))) in
    let len : get_or lens i 0 ≡ get_or m.lens i 0 = get_or-take m.count m.lens i 0 low in
    let parts : filled lens (take m.got m.room.items) ≡ c.args.self.now.parts = ap (λ s. s.parts) c.self.view_is in
    let start = sum (take i m.lens) in
    let size = get_or m.lens i 0 in
    let left : c.min.result ≡ min start m.got = c.min.ensures ∙ ap (λ n. min n m.got) from in
    let right : c.min-2.result ≡ min (start + size) m.got = c.min-2.ensures ∙ ap (λ n. min (n + size) m.got) from in
    ap (λ (room : List ℕ). take (c.min-2.result - c.min.result) (drop c.min.result room)) c.deref.ensures.value
    ∙ ap₂ (λ (a b : ℕ). take (b - a) (drop a m.room.items)) left right
    ∙ slice-take start size m.got m.room.items c.self.invariant.3
    ∙ ap₂ (λ (n d : ℕ). take n (drop d (take m.got m.room.items))) (sym len) (sym before)
    ∙ sym (get_or-filled lens (take m.got m.room.items) i there)
    ∙ ap (λ (p : List (List ℕ)). get_or p i []) parts
