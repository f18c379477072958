-- Asked: which call a running write is made as, and what it is asked as, whichever list is put in.
use Rattle.std.proofs.Common.{◌≡◌, ℕ, List, refl}
use Rattle.std.specs.Borrow.{Bor}
use Rattle.nv_plain.specs.declared.call.FileCall.{FileCall}
use Rattle.nv_table.specs.state.States.{PassState}
use Rattle.nv_ring.specs.declared.write.RunningWrite.{RunningWrite}
use Rattle.nv_ring.specs.declared.write.RunningWrite.TheVariants.{Pageless, Front, Draw, Append, Release, Over}
use Rattle.nv_ring.specs.RunningWrites.{IsOpen, IsUnderWay, asked_in, made_call}
use Rattle.nv_ring.specs.WriteSteps.{with_list}

pub made_is : (call : FileCall) (write : RunningWrite) (start now : PassState) → IsOpen write → IsUnderWay call write start now → made_call write ≡ call
made_is call (Pageless m) start now runs way = way.0
made_is call (Front m) start now runs way = way.0
made_is call (Draw m) start now runs way = way.0
made_is call (Append m) start now runs way = way.0
made_is call (Release m) start now runs way = way.0
made_is call (Over result) start now runs way = absurd runs

pub asked_with_list : (asked : FileCall) (list : Bor (List ℕ)) (write : RunningWrite) (now : PassState) → asked_in asked (with_list list write) now ≡ asked_in asked write now
asked_with_list asked list (Pageless m) now = refl
asked_with_list asked list (Front m) now = refl
asked_with_list asked list (Draw m) now = refl
asked_with_list asked list (Append m) now = refl
asked_with_list asked list (Release m) now = refl
asked_with_list asked list (Over result) now = refl
