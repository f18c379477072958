-- Accepted: a region that no command is refused by for its bytes, and what a command leaves of it.
use Rattle.std.specs.Prelude.{◌≡◌, ◌⊎◌, ℕ, true, List, Option, Some, Err, IsOk}
use Rattle.nv_pmem.specs.Part.{Part}
use Rattle.nv_pmem.specs.declared.picker.Pick.{Pick}
use Rattle.nv_bench.specs.Benches.{BenchState}
use Rattle.nv_bench.specs.Holding.{Holding}
use Rattle.nv_bench.specs.Laws.{AreWholeStores}
use Rattle.nv_bench.specs.Opening.{is_blank}
use Rattle.nv_bench.specs.Powered.{powered}
use Rattle.nv_open.specs.Unopened.{IsGood}
use Rattle.nv_runner.specs.Histories.{PlacedCall}
use Rattle.nv_top.specs.Ready.{IsReady}
use Rattle.nv_top.specs.Reported.{HasReported}
use Rattle.nv_top.specs.Said.{Outcome}
use Rattle.nv_top.specs.declared.ending.Stop.TheVariants.{Turns}
use Rattle.nv_words.specs.declared.words.Command.{Command}
use Rattle.nv_words.specs.declared.words.Command.TheVariants.{Look}

-- A region is blank, or good: no run is refused by its bytes, nor, if it isn't blank, a recovery or a look.
abbrev pub IsBlankOrGood : List Part → Type 0
IsBlankOrGood parts = (is_blank parts ≡ true) ⊎ IsGood parts

-- Whatever a power failure leaves of what a bench holds, its region is good; or it is blank still, if this says so.
abbrev pub IsAcceptedBehindPower : (blank : Type 0) → Holding → Type 0
IsAcceptedBehindPower blank now = (pick : Pick) → IsGood (powered pick now).parts ⊎ ((is_blank (powered pick now).parts ≡ true) × blank)

-- So it is behind a command, whatever that came to, on a bench whose region was blank or good before.
abbrev pub NextIsAccepted : Type 0
NextIsAccepted =
    (command : Command) (given left : Option (List ℕ)) (before now : ℕ) (old new : BenchState) (shown : List PlacedCall) (result : Outcome) (was here : Holding)
    → HasReported (Some command) given left before now old new shown result → IsReady old → old.told ≡ Some was → new.told ≡ Some here → AreWholeStores here
    → IsBlankOrGood was.parts → IsAcceptedBehindPower (is_blank was.parts ≡ true) here

-- a command showed what it made of the region, or a schedule used its turns up; a look makes nothing of it
abbrev pub HasMadeRegion : Command → Outcome → Type 0
HasMadeRegion (Look files) came = ⊥
HasMadeRegion command came = IsOk came ⊎ (came ≡ Err Turns)

-- What such a command leaves is good, whatever the region was before: no next one is refused by it, but for too many files.
abbrev pub WhatIsMadeIsGood : Type 0
WhatIsMadeIsGood =
    (command : Command) (given left : Option (List ℕ)) (before now : ℕ) (old new : BenchState) (shown : List PlacedCall) (result : Outcome) (was here : Holding)
    → HasReported (Some command) given left before now old new shown result → old.told ≡ Some was → new.told ≡ Some here → HasMadeRegion command result → IsGood here.parts
