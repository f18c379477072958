-- The walks' mount opens a file, an empty log and a region: what the laws on content and on crashes ask of a mount can be met.
use Rattle.std.specs.Prelude.{[], ◌∷◌, replicate}
use Rattle.nv_plain.specs.Files.{Files}
use Rattle.nv_core.specs.content.Content.{Opens}
use Rattle.nv_core.specs.log.LogContent.{OpensLog}
use Rattle.nv_core.specs.crash.CrashImages.{OpensRegion}
use Rattle.nv_core.specs.walks.Walks.{walk_mount}

-- one file of 128 bytes
abbrev pub walk_files : Files
walk_files = record { contents = replicate 128 97 ∷ [] }

abbrev pub WalkOpensFiles : Type 0
WalkOpensFiles = Opens walk_mount walk_files

abbrev pub WalkOpensLog : Type 0
WalkOpensLog = OpensLog walk_mount 0

-- its one file is named "a"
abbrev pub WalkOpensRegion : Type 0
WalkOpensRegion = OpensRegion walk_mount ((97 ∷ []) ∷ [])
