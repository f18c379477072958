-- Every run keeps the lengths, whatever the stores tell.
use Rattle.std.proofs.Common.{◌≡◌, ℕ, ◌≤◌, List, [], ◌∷◌, length, arith}
use Rattle.nv_plain.specs.Files.{Files}
use Rattle.nv_entry.specs.Commits.{GroupsEndReady}
use Rattle.nv_core.specs.state.Words.{Sizes}
use Rattle.nv_core.specs.state.Passes.{Idle, GrowLength}
use Rattle.nv_core.specs.steps.Order.{Values}
use Rattle.nv_core.specs.state.Core.{Core, after_begin}
use Rattle.nv_core.specs.steps.Events.{Event, Act, BeginsCall, TakesStep, CallsDevice, IsRun, after_act, after_event, after_run}
use Rattle.nv_core.proofs.steps.ByKind.{ActEnabledByKind, act_kind}
use Rattle.nv_core.specs.steps.Opening.{opening}
use Rattle.nv_core.specs.content.Lengths.{Lengths, LengthsFollowTheHistory}
use Rattle.nv_core.specs.invariant.Sound.{Sound}
use Rattle.nv_core.specs.content.PlainLaws.{PlainLaws}
use Rattle.nv_core.proofs.content.KeepsLengths.{lengths_step, lengths_begin, lengths_work}
use Rattle.nv_core.proofs.invariant.Reach.{sound_begin, events_keep_sound, opening_is_sound}

module _ (plain : PlainLaws) (ends : GroupsEndReady) (sizes : Sizes) (first : Values) (files : Files) (count : length files.contents ≡ sizes.files) where
  acts : (by : ℕ) (core : Core) (act : Act) → Sound sizes first core → Lengths sizes files core → by ≤ core.made → ActEnabledByKind sizes by core act → Lengths sizes files (after_act sizes by act core)
  acts by core (BeginsCall call op found) sound lengths made may =
      lengths_step plain sizes first files by (after_begin sizes by call core) op found count (sound_begin sizes first by core call sound made may.0) may.1 (lengths_begin sizes files by core call may.0 lengths)
  acts by core (TakesStep op found) sound lengths made may = lengths_step plain sizes first files by core op found count sound may lengths
  acts by core (CallsDevice work) sound lengths made may = lengths_work sizes files by core work may lengths

  runs : (events : List Event) (core : Core) → Sound sizes first core → Lengths sizes files core → IsRun sizes core events → Lengths sizes files (after_run sizes core events)
  runs [] core sound lengths run = lengths
  runs (event ∷ later) core sound lengths run =
      runs later (after_event sizes event core) (events_keep_sound ends sizes first core event sound run.0) (acts event.by core event.act sound lengths run.0.made (act_kind sizes event.by core event.act run.0.act)) run.1

grows_not : Idle ≡ GrowLength → ⊥
grows_not e = cc

pub lengths_follow : PlainLaws → GroupsEndReady → LengthsFollowTheHistory
lengths_follow plain ends mount files events is of run = runs plain ends mount.sizes mount.values files of.count events (opening mount) (opening_is_sound mount is)
    record { most = λ file low. let e = of.each file low in omega (arith, e); is = λ file low off. of.each file low; extends = λ number file grows. absurd (grows_not grows.0) } run
