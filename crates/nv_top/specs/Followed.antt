-- Followed: a life of a schedule, on a bench that held something.
use Rattle.std.specs.Prelude.{ℕ, Bool, List, length, Some}
use Rattle.nv_plain.specs.Faults.{Rose}
use Rattle.nv_pmem.specs.declared.picker.Pick.{Pick}
use Rattle.nv_bench.specs.Benches.{BenchState}
use Rattle.nv_bench.specs.Holding.{Holding}
use Rattle.nv_bench.specs.Opening.{opened}
use Rattle.nv_open.specs.Lending.{without_stores}
use Rattle.nv_trace.specs.Traced.{Traced}
use Rattle.nv_runner.specs.Faithful.{Basis}
use Rattle.nv_top.specs.Commands.{IsBasis}
use Rattle.nv_top.specs.LifeLines.{AreLinesOf}
use Rattle.nv_top.specs.Scheduling.{HasScheduledOn, HasUsedTurns}
use Rattle.nv_top.specs.declared.life.LifeLines.{LifeLines}
use Rattle.nv_words.specs.declared.words.RunOptions.{RunOptions}

-- A life of a schedule: that of a trace was followed on a bench that held this, and had lost power with those picks, and is that now. Its parts and its other stores are as behind a stop.
pub record HasFollowed (failed : Type 0) (options : RunOptions) (before : List Pick) (holding : Holding) (bench : BenchState) (trace : Traced) : Type 0 where
  pub basis : Basis
  pub begun : IsBasis options holding trace.names basis
  pub scheduled : HasScheduledOn failed options before basis trace (length (opened (Some begun.geometry) holding.parts)) (without_stores basis.names holding.stores) bench

-- and the lines are those of its report
abbrev pub ShowsFollowed : (failed : Type 0) (options : RunOptions) (before : List Pick) (holding : Holding) (bench : BenchState) (trace : Traced) (place : ℕ) (last : Bool) (lines : LifeLines) → Type 0
ShowsFollowed failed options before holding bench trace place last lines = (life : HasFollowed failed options before holding bench trace) × AreLinesOf place last life.scheduled.report lines

-- The schedule of a trace was followed up to a token that has used its advances up, on a bench that held this, and is that now: it was armed at the cuts before that token, and lost power behind that run. Its parts and its other stores
-- are as behind a stop.
pub record HasUsedTurnsOn (options : RunOptions) (old new : BenchState) (holding : Holding) (trace : Traced) : Type 0 where
  pub basis : Basis
  pub begun : IsBasis options holding trace.names basis
  pub used : HasUsedTurns (Rose old.faults new.faults) options basis trace (length (opened (Some begun.geometry) holding.parts)) (without_stores basis.names holding.stores) old new
