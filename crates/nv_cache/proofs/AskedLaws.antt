-- Asked: a read is asked as what its pass has begun, wherever it stands.
use Rattle.std.proofs.Common.{◌≡◌, ℕ, List, ap}
use Rattle.nv_plain.specs.declared.call.FileCall.{FileCall}
use Rattle.nv_table.specs.state.States.{PassState}
use Rattle.nv_table.specs.state.Views.{PassView, pass_of}
use Rattle.nv_pages.specs.Altered.{IsAltered}
use Rattle.nv_cache.specs.declared.read.RunningRead.{RunningRead}
use Rattle.nv_cache.specs.declared.read.RunningRead.TheVariants.{Pageless, Front, Search, Load, TakePlace, Release, Over}
use Rattle.nv_cache.specs.RunningReads.{IsOpen, IsUnderWay, made_call}

-- it is made as its call
pub made_is : (call : FileCall) (read : RunningRead) (list room : List ℕ) (start now : PassState) → IsOpen read → IsUnderWay call read list room start now → made_call read ≡ call
made_is call (Pageless m) list room start now runs way = way.stands.0
made_is call (Front m) list room start now runs way = way.stands.0
made_is call (Search of m) list room start now runs way = way.stands.0
made_is call (Load of m) list room start now runs way = way.stands.0
made_is call (TakePlace m) list room start now runs way = way.stands.0
made_is call (Release m copied) list room start now runs way = way.stands.0
made_is call (Over result) list room start now runs way = absurd runs

-- a look at what the pass owns leaves it
pub asked_same : (now new : PassState) → IsAltered (λ kept. kept) now new → (pass_of new.view).asked ≡ (pass_of now.view).asked
asked_same now new same = ap (λ (v : PassView). (pass_of v).asked) same.view
