-- What came into the part of the list lies in the list.
use Rattle.std.proofs.Common.{◌≡◌, ℕ, ◌+◌, ◌-◌, ◌≤◌, List, ◌++◌, length, take, drop, ap, ◌∙◌, arith, append_assoc}
use Rattle.std.specs.Prelude.{Option, Some, None}
use Rattle.std.proofs.lemmas.List.{length-take, length-drop}
use borrow.Rule.Slice.PartMut.{put_mid, put_same}
use Rattle.nv_plain.specs.Files.{bytes_at}
use Rattle.nv_core.specs.state.Words.{PAGE}
use Rattle.nv_core.specs.state.Values.{Value, bytes_in}
use Rattle.nv_pages.specs.PageWork.{IsCopied}
use Rattle.nv_mirror.specs.Copied.{IsPut}
use Rattle.nv_mirror.proofs.visit.copy_part.Goals as goal

put_there : (value : Value) (at from size : ℕ) (old middle : List ℕ) (result : Option ℕ) → from + size ≤ length old → IsCopied value at (take (from + size - from) (drop from old)) middle result
    → IsPut value at from size old (put_mid from (from + size - from) old middle) result
put_there value at from size old middle (Some count) room is =
    let all = length-take (from + size - from) (drop from old) in
    let after = length-drop from old in
    let many : length (take (from + size - from) (drop from old)) ≡ size = omega (arith, all, after, room) in
    let whole = is.2 ∙ ap (λ n. bytes_at (bytes_in value) at n ++ drop count (take (from + size - from) (drop from old))) many in (
      is.0,
      is.1 ∙ ap (λ n. length (bytes_at (bytes_in value) at n)) many,
      drop count (take (from + size - from) (drop from old)) ++ drop (from + size - from) (drop from old),
      ap (λ ys. take from old ++ (ys ++ drop (from + size - from) (drop from old))) whole
          ∙ ap (λ ys. take from old ++ ys) (append_assoc (bytes_at (bytes_in value) at size) (drop count (take (from + size - from) (drop from old))) (drop (from + size - from) (drop from old))),
    )
put_there value at from size old middle None room is = (is.0, ap (put_mid from (from + size - from) old) is.1 ∙ put_same from (from + size - from) old)

pub returns-clause-copied : goal.returns-clause-copied
returns-clause-copied g c kept cells owns_slots =
    put_there (kept (PAGE c.args.page)) c.args.at c.args.from c.args.size c.args.list.now c.copy_page.new.into c.copy_page.result c.requires.room (c.copy_page.ensures.copied kept cells owns_slots)
