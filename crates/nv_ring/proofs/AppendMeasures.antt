-- Append measures: a write's append comes to its end.
use Rattle.std.proofs.Common.{ℕ, ◌+◌, ◌<◌, ◌==◌, nat_lt, Bool, true, false, if◌then◌else◌, arith}
use Rattle.nv_core.specs.state.Words.{Sizes}
use Rattle.nv_mirror.specs.declared.answers.Refusal.TheVariants.{RegionFault}
use Rattle.nv_ring.specs.declared.append.AppendControl.{AppendControl}
use Rattle.nv_ring.specs.declared.append.AppendControl.TheVariants.{Appended, Refused}
use Rattle.nv_ring.specs.declared.append.AppendControl.TheVariants as appends
use Rattle.nv_ring.specs.declared.append.AppendMachine.{AppendMachine}
use Rattle.nv_ring.specs.Appends.{IsOpen, IsPlain, FitsAt, append_after_at, append_measure_at}

-- whatever a test says
either_less : (m : AppendMachine) (b : Bool) (one other : AppendControl) (most : ℕ) → append_measure_at m one < most → append_measure_at m other < most → append_measure_at m (if b then one else other) < most
either_less m true one other most low high = low
either_less m false one other most low high = high

-- Each step lowers it, whatever it finds, and whether a device call before it has failed or not.
pub append_less : (sizes : Sizes) (m : AppendMachine) (control : AppendControl) (failed : Bool) (found : ℕ) → 0 < m.pages → FitsAt m control → IsOpen control
    → append_measure_at (append_after_at sizes m control failed found) (append_after_at sizes m control failed found).control < append_measure_at m control
append_less sizes m (appends.SeizeEntry seized) failed found some stands runs =
    either_less m (seized + 1 == m.pages) appends.CommitGroup (appends.SeizeEntry (seized + 1)) _ (let own = stands.0 in omega (arith, own)) (let own = stands.0 in omega (arith, own))
append_less sizes m appends.CommitGroup failed found some stands runs =
    either_less m failed (appends.BreakEntry 0) _ _ (omega arith)
    (either_less m (0 + 1 == m.pages) (appends.ReadyEntry 0) (appends.PledgePage 1) _ (omega (arith, some)) (omega (arith, some)))
append_less sizes m (appends.PledgePage pledged) failed found some stands runs =
    either_less m (pledged + 1 == m.pages) (appends.ReadyEntry 0) (appends.PledgePage (pledged + 1)) _ (let own = stands.0 in omega (arith, own)) (let own = stands.0 in omega (arith, own))
append_less sizes m (appends.ReadyEntry ready) failed found some stands runs =
    either_less m (ready + 1 == m.pages) appends.TakePlace (appends.ReadyEntry (ready + 1)) _ (let own = stands.0 in omega (arith, own)) (let own = stands.0 in omega (arith, own))
append_less sizes m appends.TakePlace failed found some stands runs = either_less m (nat_lt m.length m.end) appends.GrowLength Appended _ (omega arith) (omega arith)
append_less sizes m appends.GrowLength failed found some stands runs = omega arith
append_less sizes m (appends.BreakEntry broken) failed found some stands runs =
    either_less m (broken + 1 == m.pages) (Refused RegionFault) (appends.BreakEntry (broken + 1)) _ (let own = stands.0 in omega (arith, own)) (let own = stands.0 in omega (arith, own))
append_less sizes m Appended failed found some stands runs = absurd runs
append_less sizes m (Refused refusal) failed found some stands runs = absurd runs

-- what is plain is open
pub plain_open : (control : AppendControl) → IsPlain control → IsOpen control
plain_open appends.CommitGroup plain = absurd plain
plain_open (appends.PledgePage pledged) plain = absurd plain
plain_open control plain = plain
