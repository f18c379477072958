-- Loads: how generated calls are run, and what is shown of them.
use Rattle.std.specs.Prelude.{◌≡◌, ℕ, true, List, [], Option, None, codes}
use Rattle.nv_pmem.specs.declared.picker.Pick.TheVariants.{Old}
use Rattle.nv_pmem.specs.Part.{Part}
use Rattle.nv_bench.specs.Holding.{Holding, store_of}
use Rattle.nv_bench.specs.Opening.{is_blank}
use Rattle.nv_load.specs.Generated.{generated}
use Rattle.nv_load.specs.Summaries.{load_summary}
use Rattle.nv_load.specs.declared.load.Load.{Load}
use Rattle.nv_top.specs.Commands.{HasRunOn}
use Rattle.nv_top.specs.Shows.{summary_text}
use Rattle.nv_top.specs.declared.show.Show.TheVariants.{Summary}
use Rattle.nv_words.specs.declared.words.RunOptions.{RunOptions}

-- how they are run: in a file of 96 pages, by a log of 16 entries, with a worker
abbrev pub load_options : RunOptions
load_options = record { page = 64; entries = 16; cache = 8; batch = 4; pages = 96; worker = true; stop = None; image = Old }

-- A bench holds a blank region, and no byte of the file.
pub record IsFreshFor (name : List ℕ) (holding : Holding) : Type 0 where
  pub blank : is_blank holding.parts ≡ true
  pub empty : (store_of name holding.stores).seen ≡ []

-- A bench that has no store yet is fresh for each name, where its region is blank.
abbrev pub NewBenchesAreFresh : Type 0
NewBenchesAreFresh = (name : List ℕ) (parts : List Part) → is_blank parts ≡ true → IsFreshFor name (record { parts = parts; stores = [] })

-- The text is the summary of a faithful report of a run of the generated calls. Where the bench was fresh it is that of the load alone.
pub record HasGenerated (load : Load) (holding : Holding) (told : Option Holding) (text : List ℕ) : Type 0 where
  pub ran : HasRunOn (Summary load) load_options holding told (generated load) text
  pub alone : IsFreshFor (codes "g") holding → text ≡ summary_text load (load_summary load)
