-- Between calls: what leaves a pass idle.
use Rattle.std.specs.Prelude.{◌≡◌, []}
use Rattle.nv_table.specs.passes.PassesMade.{IsSplit, IsTakenIn}
use Rattle.nv_table.specs.invariant.Idle.{IsIdle}
use Rattle.nv_table.specs.state.Opened.{Opened}
use Rattle.nv_table.specs.state.Views.{first_view}
use Rattle.nv_table.specs.state.States.{BoardState, PassState, IsOf}

-- Pass 0 is when it is made with its board.
abbrev pub NewPassIsIdle : Type 0
NewPassIsIdle = (pass : PassState) (opened : Opened) → pass.view ≡ first_view opened → pass.now ≡ [] → IsIdle pass

-- It is after it has made another pass, and so is that.
abbrev pub SplitsLeaveIdle : Type 0
SplitsLeaveIdle = (old new other : PassState) → IsSplit old new other → IsIdle old → IsIdle new × IsIdle other

-- It is after it has taken in another pass that is.
abbrev pub JoinsLeaveIdle : Type 0
JoinsLeaveIdle = (board : BoardState) (old other new : PassState) → IsOf board old → IsOf board other → IsTakenIn old other new → IsIdle old → IsIdle other → IsIdle new
