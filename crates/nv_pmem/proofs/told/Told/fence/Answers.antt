use Rattle.std.proofs.Common.{◌≡◌, ℕ, ◌<◌, ◌≤◌, ◌++◌, length, map, take, drop, ◌∙◌, arith}
use Rattle.std.proofs.lemmas.List.{take_all, drop_all, append-nil, length-map}
use Rattle.std.proofs.lemmas.List.Edits.{map_over_more}
use Rattle.std.specs.List.{refill}
use Rattle.nv_pmem.specs.Part.{Part, fenced}
use Rattle.nv_pmem.proofs.Rooms.{keeps_fenced, frees_fenced}
use Rattle.nv_pmem.proofs.PastLaws.{noted_before}
use Rattle.nv_pmem.proofs.told.Told.fence.Goals as goal

-- the loop's lines, put back into their vector after the last
all_fenced : (part lines : Part) (index len : ℕ) → lines ≡ map fenced (take index part) ++ drop index part → length part ≤ index → length part ≤ len
    → refill len part lines ≡ map fenced part
all_fenced part lines index len so_far over long =
    let all : lines ≡ map fenced part = so_far ∙ rw (take_all index part over, drop_all index part over, append-nil) in
    let same = length-map part fenced in
    rw (all, drop_all (length (map fenced part)) part (omega arith), append-nil, take_all len (map fenced part) (omega arith))

pub loop-line-preserved : goal.loop-line-preserved
loop-line-preserved c =
    let inside : c.loop-line.line-index < length c.deref_mut-line-items.result.now = c.loop-line-test.true in
    rw (c.fence.ensures, ← c.line-item.is) (map_over_more fenced c.deref_mut-line-items.result.now _ _ _ inside c.loop-line.invariant c.line-item.is)

pub returns : goal.returns
returns c =
    let part = c.args.self.now.lines.items in
    let after = all_fenced part c.loop-line.line-items c.loop-line.line-index c.args.self.now.lines.len (rw c.deref_mut-line-items.ensures.value at c.loop-line.invariant) (rw c.deref_mut-line-items.ensures.value at c.loop-line-test.false) (omega arith) in
    record { history = noted_before (λ lines. lines.items) after c.note.ensures; room = rw after (keeps_fenced part); freed = rw after (frees_fenced part) }
