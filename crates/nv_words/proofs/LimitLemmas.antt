-- Which command words are, and that its options are within their limits.
use Rattle.std.proofs.Common.{◌≡◌, ◌≤◌, ◌%◌, ◌&&◌, ◌==◌, if◌then◌else◌, length, arith, ℕ, Bool, true, false, List, [], ◌∷◌, Option, Some, None, refl, sym, subst}
use Rattle.std.proofs.lemmas.Bool.{eqb-true}
use Rattle.std.specs.Prelude.{IfSome, codes, option_and_then, option_map}
use Rattle.std.specs.Str.{bytes_eq}
use Rattle.std.specs.List.{list_any}
use Rattle.clap.specs.Kinds.{Kinds}
use Rattle.clap.specs.Words.{App, Row, fault_of, first_of, matches_of}
use Rattle.nv_load.specs.Generated.{IsLoad}
use Rattle.nv_load.specs.declared.load.Load.{Load}
use Rattle.nv_pmem.specs.Limits.{IsEntryCount, IsPageSize}
use Rattle.nv_words.specs.Words.{AreInLimits, command_of, if_lines, image_in, is_dashes, largest_number, load_in, look_in, names_schedule, number_in, number_or, options_behind, options_in, page_of_words, run_app, run_in, sched_app, sched_in, stop_in, unless_refused}
use Rattle.nv_words.specs.declared.words.Command.{Command}
use Rattle.nv_words.specs.declared.words.Command.TheVariants.{Gen, Look, Recover, Run, Sched}
use Rattle.nv_words.specs.declared.words.RunOptions.{RunOptions}
use Rattle.nv_words.proofs.NumberLemmas.{number_between, option_between}

-- ---- what a run's options are

-- what stands in an option, where what is made of it is there
pub and_then_some : {X Y : Type 0} (f : X → Option Y) (one : Option X) (y : Y) → option_and_then f one ≡ Some y → (x : X) × (one ≡ Some x) × (f x ≡ Some y)
and_then_some f None y is = cc
and_then_some f (Some x) y is = (x, refl, is)

map_some : {X Y : Type 0} (f : X → Y) (one : Option X) (y : Y) → option_map f one ≡ Some y → (x : X) × (one ≡ Some x) × (f x ≡ y)
map_some f None y is = cc
map_some f (Some x) y is = (x, refl, cc)

lines_of : (found page : ℕ) → 64 ≤ found → found ≤ 4096 → if_lines found ≡ Some page → IsPageSize page
lines_of found page low high is = by_test (found % 64 == 0) refl is where
  by_test : (test : Bool) → (found % 64 == 0) ≡ test → (if test then Some found else None) ≡ Some page → IsPageSize page
  by_test true whole is =
      let same : found ≡ page = cc in
      subst IsPageSize same (record { least = low; most = high; whole_lines = eqb-true (found % 64) 0 whole })
  by_test false whole is = cc

page_allowed : (rows : List Row) (page : ℕ) → page_of_words rows ≡ Some page → IsPageSize page
page_allowed rows page is =
    let found = and_then_some if_lines (number_or 64 64 4096 (first_of (codes "page") rows)) page is in
    let between = option_between 64 64 4096 (first_of (codes "page") rows) found.0 (omega arith) (omega arith) found.1 in
    lines_of found.0 page between.0 between.1 found.2

entries_allowed : (value : Option (List ℕ)) (entries : ℕ) → number_or 16 2 1024 value ≡ Some entries → IsEntryCount entries
entries_allowed value entries is =
    let between = option_between 16 2 1024 value entries (omega arith) (omega arith) is in
    record { least = between.0; most = between.1 }

stop_counts : (value : Option (List ℕ)) (stop : Option ℕ) → stop_in value ≡ Some stop → IfSome stop (λ k. 1 ≤ k)
stop_counts None None is = tt
stop_counts None (Some k) is = cc
stop_counts (Some text) stop is =
    let found = map_some Some (number_in 1 largest_number text) stop is in
    let Counts : Option ℕ → Type 0 = λ stop. IfSome stop (λ k. 1 ≤ k) in
    subst Counts found.2 (number_between 1 largest_number text found.0 found.1).0

options_allowed : (rows : List Row) (options : RunOptions) → options_in rows ≡ Some options → AreInLimits options × IfSome options.stop (λ k. 1 ≤ k)
options_allowed rows options is =
    let page = and_then_some _ (page_of_words rows) options is in
    let entries = and_then_some _ (number_or 16 2 1024 (first_of (codes "entries") rows)) options page.2 in
    let cache = and_then_some _ (number_or 4 1 16384 (first_of (codes "cache") rows)) options entries.2 in
    let batch = and_then_some _ (number_or 4 1 1024 (first_of (codes "batch") rows)) options cache.2 in
    let pages = and_then_some _ (number_or 64 1 1024 (first_of (codes "pages") rows)) options batch.2 in
    let stop = and_then_some _ (stop_in (first_of (codes "stop") rows)) options pages.2 in
    let image = map_some _ (image_in (first_of (codes "image") rows)) options stop.2 in
    let cached = option_between 4 1 16384 (first_of (codes "cache") rows) cache.0 (omega arith) (omega arith) cache.1 in
    let batched = option_between 4 1 1024 (first_of (codes "batch") rows) batch.0 (omega arith) (omega arith) batch.1 in
    let files = option_between 64 1 1024 (first_of (codes "pages") rows) pages.0 (omega arith) (omega arith) pages.1 in
    let Allowed : RunOptions → Type 0 = λ options. AreInLimits options × IfSome options.stop (λ k. 1 ≤ k) in
    subst Allowed image.2 (
      record {
        page = page_allowed rows page.0 page.1;
        entries = entries_allowed (first_of (codes "entries") rows) entries.0 entries.1;
        some_pages = files.0;
        few_pages = files.1;
        some_cache = cached.0;
        few_cache = cached.1;
        some_batch = batched.0;
        few_batch = batched.1;
      },
      stop_counts (first_of (codes "stop") rows) stop.0 stop.1,
    )

behind_said : (dashes : Bool) (faults : Kinds) (found : Option RunOptions) (options : RunOptions) → (if dashes then None else unless_refused faults found) ≡ Some options → found ≡ Some options
behind_said true faults found options is = cc
behind_said false (first ∷ rest) found options is = cc
behind_said false [] found options is = is

-- the sizes of options that words say are within their limits
behind_allowed : (app : App) (words : List (List ℕ)) (options : RunOptions) → options_behind app words ≡ Some options → AreInLimits options × IfSome options.stop (λ k. 1 ≤ k)
behind_allowed app words options is =
    options_allowed (matches_of app words) options (behind_said (list_any is_dashes words) (fault_of app words) (options_in (matches_of app words)) options is)

-- ---- which command words are

-- A command that is none of those that its word doesn't name.
looks_on : (asked : Bool) (command : Command) → (if asked then Some (Look true) else None) ≡ Some command → (files : Bool) × (command ≡ Look files)
looks_on true command is = (true, cc)
looks_on false command is = absurd cc

-- what a look is
look_only : (words : List (List ℕ)) (command : Command) → look_in words ≡ Some command → (files : Bool) × (command ≡ Look files)
look_only [] command is = (false, cc)
look_only (word ∷ rest) command is = looks_on (bytes_eq word (codes "--files") && length rest == 0) command is

-- what a load is
load_only : (words : List (List ℕ)) (command : Command) → load_in words ≡ Some command → (load : Load) × (command ≡ Gen load) × IsLoad load
load_only [] command is = absurd cc
load_only (seed ∷ []) command is = absurd cc
load_only (seed ∷ calls ∷ []) command is = absurd cc
load_only (seed ∷ calls ∷ threads ∷ []) command is =
    let one = and_then_some _ (number_in 0 largest_number seed) command is in
    let two = and_then_some _ (number_in 0 100000 calls) command one.2 in
    let three = map_some _ (number_in 1 8 threads) command two.2 in
    let seeded = number_between 0 largest_number seed one.0 one.1 in
    let called = number_between 0 100000 calls two.0 two.1 in
    let made = number_between 1 8 threads three.0 three.1 in (
      record { seed = one.0; calls = two.0; threads = three.0 },
      sym three.2,
      record { seed = seeded.1; calls = called.1; some_threads = made.0; few_threads = made.1 },
    )
load_only (seed ∷ calls ∷ threads ∷ one ∷ more) command is = absurd cc

-- Each command by its word.
data Kind (command : Command) : Type 0 where
  IsRun : (options : RunOptions) → command ≡ Run options → AreInLimits options → IfSome options.stop (λ k. 1 ≤ k) → Kind command
  IsSched : (options : RunOptions) → command ≡ Sched options → AreInLimits options → Kind command
  IsRecover : command ≡ Recover → Kind command
  IsLook : (files : Bool) → command ≡ Look files → Kind command
  IsGen : (load : Load) → command ≡ Gen load → IsLoad load → Kind command

kind_by : (run sched recover look gen : Bool) (words rest : List (List ℕ)) (command : Command)
    → (if run then run_in words else if sched then sched_in words else if recover then Some Recover else if look then look_in rest else if gen then load_in rest else None) ≡ Some command → Kind command
kind_by true sched recover look gen words rest command is =
    let found = map_some Run (options_behind run_app words) command is in
    let allowed = behind_allowed run_app words found.0 found.1 in
    IsRun found.0 (sym found.2) allowed.0 allowed.1
kind_by false true recover look gen words rest command is =
    let found = map_some Sched (options_behind sched_app words) command is in
    IsSched found.0 (sym found.2) (behind_allowed sched_app words found.0 found.1).0
kind_by false false true look gen words rest command is = IsRecover cc
kind_by false false false true gen words rest command is = let found = look_only rest command is in IsLook found.0 found.1
kind_by false false false false true words rest command is = let found = load_only rest command is in IsGen found.0 found.1 found.2
kind_by false false false false false words rest command is = absurd cc

kind_of : (words : List (List ℕ)) (command : Command) → command_of words ≡ Some command → Kind command
unfolding command_of
kind_of [] command is = absurd cc
kind_of (word ∷ words) command is =
    kind_by (bytes_eq word (codes "run")) (bytes_eq word (codes "sched")) (bytes_eq word (codes "recover") && length words == 0) (bytes_eq word (codes "look")) (bytes_eq word (codes "gen"))
    (word ∷ words) words command is

-- the sizes of a run are within their limits, and one that words stop is stopped at a device call from the first one on
pub run_allowed : (words : List (List ℕ)) (options : RunOptions) → command_of words ≡ Some (Run options) → AreInLimits options × IfSome options.stop (λ k. 1 ≤ k)
run_allowed words options is = by (kind_of words (Run options) is) where
  by : Kind (Run options) → AreInLimits options × IfSome options.stop (λ k. 1 ≤ k)
  by (IsRun one same limits counts) =
      let Allowed : RunOptions → Type 0 = λ options. AreInLimits options × IfSome options.stop (λ k. 1 ≤ k) in
      let is_one : one ≡ options = cc in
      subst Allowed is_one (limits, counts)
  by (IsSched one same limits) = absurd cc
  by (IsRecover same) = absurd cc
  by (IsLook files same) = absurd cc
  by (IsGen load same within) = absurd cc

pub run_in_limits : (words : List (List ℕ)) (options : RunOptions) → command_of words ≡ Some (Run options) → AreInLimits options
run_in_limits words options is = (run_allowed words options is).0

pub stop_from_one : (words : List (List ℕ)) (options : RunOptions) → command_of words ≡ Some (Run options) → IfSome options.stop (λ k. 1 ≤ k)
stop_from_one words options is = (run_allowed words options is).1

-- so are those of a schedule
pub sched_in_limits : (words : List (List ℕ)) (options : RunOptions) → command_of words ≡ Some (Sched options) → AreInLimits options
sched_in_limits words options is = by (kind_of words (Sched options) is) where
  by : Kind (Sched options) → AreInLimits options
  by (IsSched one same limits) =
      let is_one : one ≡ options = cc in
      subst AreInLimits is_one limits
  by (IsRun one same limits counts) = absurd cc
  by (IsRecover same) = absurd cc
  by (IsLook files same) = absurd cc
  by (IsGen load same within) = absurd cc

-- a load that words ask for is within its limits
pub load_in_limits : (words : List (List ℕ)) (load : Load) → command_of words ≡ Some (Gen load) → IsLoad load
load_in_limits words load is = by (kind_of words (Gen load) is) where
  by : Kind (Gen load) → IsLoad load
  by (IsGen one same within) =
      let is_one : one ≡ load = cc in
      subst IsLoad is_one within
  by (IsRun one same limits counts) = absurd cc
  by (IsSched one same limits) = absurd cc
  by (IsRecover same) = absurd cc
  by (IsLook files same) = absurd cc

-- the words of a schedule begin with its own
only_by : (run sched recover look gen : Bool) (words rest : List (List ℕ)) (options : RunOptions)
    → (if run then run_in words else if sched then sched_in words else if recover then Some Recover else if look then look_in rest else if gen then load_in rest else None) ≡ Some (Sched options) → sched ≡ true
only_by true sched recover look gen words rest options is = let found = map_some Run (options_behind run_app words) (Sched options) is in let same = found.2 in cc
only_by false true recover look gen words rest options is = refl
only_by false false true look gen words rest options is = cc
only_by false false false true gen words rest options is = let found = look_only rest (Sched options) is in let same = found.1 in cc
only_by false false false false true words rest options is = let found = load_only rest (Sched options) is in let same = found.1 in cc
only_by false false false false false words rest options is = cc

pub only_sched : (words : List (List ℕ)) (options : RunOptions) → command_of words ≡ Some (Sched options) → names_schedule words ≡ true
unfolding command_of
only_sched [] options is = cc
only_sched (word ∷ words) options is =
    only_by (bytes_eq word (codes "run")) (bytes_eq word (codes "sched")) (bytes_eq word (codes "recover") && length words == 0) (bytes_eq word (codes "look")) (bytes_eq word (codes "gen"))
    (word ∷ words) words options is
