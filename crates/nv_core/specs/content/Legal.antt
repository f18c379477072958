-- Legal: each call of the history was answered as on plain files.
use Rattle.nv_plain.specs.Files.{Files}
use Rattle.nv_plain.specs.Histories.{IsLegal}
use Rattle.nv_core.specs.state.Core.{Core}

-- The history is legal from the files at opening.
pub record Legal (opening : Files) (core : Core) : Type 0 where
  pub legal : IsLegal core.history opening
