-- Words: which words are which command.
use Rattle.std.specs.Prelude.{ℕ, ◌≤◌, ◌-◌, ◌^◌, ◌%◌, Bool, ◌&&◌, ◌==◌, fold, length, if◌then◌else◌, List, [], ◌∷◌, Option, Some, None, option_map, option_and_then, codes, true, false, not}
use Rattle.std.specs.List.{list_any}
use Rattle.std.specs.Str.{bytes_eq}
use Rattle.std.specs.Str.Parse.{digits_value, without_leading_plus}
use Rattle.clap.specs.ValueTests.{is_unsigned_in}
use Rattle.clap.specs.Kinds.{Kinds}
use Rattle.clap.specs.Words.{App, Row, Rule, fault_of, first_of, matches_of, new_app, new_rule, with_rule}
use Rattle.clap.specs.declared.builder.action.ArgAction.TheVariants.{SetTrue}
use Rattle.nv_plain.specs.Layouts.{mount_layout}
use Rattle.nv_pmem.specs.Limits.{IsEntryCount, IsPageSize}
use Rattle.nv_pmem.specs.declared.picker.Pick.{Pick}
use Rattle.nv_pmem.specs.declared.picker.Pick.TheVariants.{Old, New, Torn, Mixed, Seed}
use Rattle.nv_words.specs.declared.words.Command.{Command}
use Rattle.nv_words.specs.declared.words.Command.TheVariants.{Run, Sched, Recover, Look, Gen}
use Rattle.nv_words.specs.declared.words.RunOptions.{RunOptions}

-- ---- the options of a run and of a schedule, as `clap` reads them

-- `--noworker`, which has no value
abbrev pub noworker_rule : Rule
noworker_rule = record (new_rule (codes "noworker")) { long = Some (codes "noworker"); action = Some SetTrue }

-- an option with a value, as `--stop 3` or `--stop=3`
abbrev pub option_rule : List ℕ → Rule
option_rule name = record (new_rule name) { long = Some name }

-- the options with a value
abbrev pub option_names : List (List ℕ)
option_names = codes "page" ∷ codes "entries" ∷ codes "cache" ∷ codes "batch" ∷ codes "pages" ∷ codes "stop" ∷ codes "image" ∷ []

-- `run` with these, each at most once, and no `--help`
unfoldable pub run_app : App
run_app =
    let app = fold (λ app name. with_rule app (option_rule name)) (with_rule (new_app (codes "run")) noworker_rule) option_names in
    record { top = record app.top { disable_help_flag = true }; subs = app.subs }

-- the options of a schedule
abbrev pub sched_names : List (List ℕ)
sched_names = codes "page" ∷ codes "entries" ∷ codes "cache" ∷ codes "batch" ∷ codes "pages" ∷ codes "image" ∷ []

-- `sched` with these, each at most once, and no `--help`
unfoldable pub sched_app : App
sched_app =
    let app = fold (λ app name. with_rule app (option_rule name)) (new_app (codes "sched")) sched_names in
    record { top = record app.top { disable_help_flag = true }; subs = app.subs }

-- ---- their values

-- the greatest number behind `--stop` and `--image`
abbrev pub largest_number : ℕ
largest_number = 2 ^ 32 - 1

-- a number from the least to the most, as Rust reads a u64: digits, and maybe a plus before them
abbrev pub number_in : (least most : ℕ) → List ℕ → Option ℕ
number_in least most text = if is_unsigned_in least most text then Some (digits_value 10 (without_leading_plus text)) else None

-- such a number, or the usual one where its option isn't there
abbrev pub number_or : (usual least most : ℕ) → Option (List ℕ) → Option ℕ
number_or usual least most None = Some usual
number_or usual least most (Some text) = number_in least most text

-- whole lines of 64 bytes
abbrev pub if_lines : ℕ → Option ℕ
if_lines page = if page % 64 == 0 then Some page else None

-- bytes of a page
abbrev pub page_of_words : List Row → Option ℕ
page_of_words rows = option_and_then if_lines (number_or 64 64 4096 (first_of (codes "page") rows))

-- a worker cleans the log meanwhile, unless `--noworker` is there
abbrev pub worker_in : Option (List ℕ) → Bool
worker_in None = true
worker_in (Some text) = not (bytes_eq text (codes "true"))

-- which device call a run is stopped at, if at all
abbrev pub stop_in : Option (List ℕ) → Option (Option ℕ)
stop_in None = Some None
stop_in (Some text) = option_map Some (number_in 1 largest_number text)

-- the image that an option names: `old`, `new`, `torn`, `mixed`, or a number; the old one where the option isn't there
abbrev pub image_in : Option (List ℕ) → Option Pick
image_in None = Some Old
image_in (Some text) =
    if bytes_eq text (codes "old") then Some Old
    else if bytes_eq text (codes "new") then Some New
    else if bytes_eq text (codes "torn") then Some Torn
    else if bytes_eq text (codes "mixed") then Some Mixed
    else option_map Seed (number_in 0 largest_number text)

-- what all options say
abbrev pub options_in : List Row → Option RunOptions
options_in rows =
    option_and_then (λ page. option_and_then (λ entries. option_and_then (λ cache. option_and_then (λ batch. option_and_then (λ pages.
    option_and_then (λ stop. option_map (λ image.
    record { page = page; entries = entries; cache = cache; batch = batch; pages = pages; worker = worker_in (first_of (codes "noworker") rows); stop = stop; image = image })
    (image_in (first_of (codes "image") rows)))
    (stop_in (first_of (codes "stop") rows)))
    (number_or 64 1 1024 (first_of (codes "pages") rows)))
    (number_or 4 1 1024 (first_of (codes "batch") rows)))
    (number_or 4 1 16384 (first_of (codes "cache") rows)))
    (number_or 16 2 1024 (first_of (codes "entries") rows)))
    (page_of_words rows)

-- The sizes of a run are within the limits of a region and of a file, of a cache and of a batch.
pub record AreInLimits (options : RunOptions) : Type 0 where
  pub page : IsPageSize options.page
  pub entries : IsEntryCount options.entries
  pub some_pages : 1 ≤ options.pages
  pub few_pages : options.pages ≤ mount_layout.page_limit
  pub some_cache : 1 ≤ options.cache
  pub few_cache : options.cache ≤ 16384
  pub some_batch : 1 ≤ options.batch
  pub few_batch : options.batch ≤ 1024

-- ---- commands

-- the word `--`, behind which no option stands
abbrev pub is_dashes : List ℕ → Bool
is_dashes word = bytes_eq word (codes "--")

-- options, where no fault was found in their words
abbrev pub unless_refused : Kinds → Option RunOptions → Option RunOptions
unless_refused [] options = options
unless_refused (first ∷ rest) options = None

-- the options behind a command's word, where `clap` takes them and none is the word `--`
abbrev pub options_behind : App → List (List ℕ) → Option RunOptions
options_behind app words = if list_any is_dashes words then None else unless_refused (fault_of app words) (options_in (matches_of app words))

-- the run that words ask for
abbrev pub run_in : List (List ℕ) → Option Command
run_in words = option_map Run (options_behind run_app words)

-- the schedule that they ask for
abbrev pub sched_in : List (List ℕ) → Option Command
sched_in words = option_map Sched (options_behind sched_app words)

-- the look that words ask for: with files by `--files` alone, and without by no word
abbrev pub look_in : List (List ℕ) → Option Command
look_in [] = Some (Look false)
look_in (word ∷ rest) = if bytes_eq word (codes "--files") && length rest == 0 then Some (Look true) else None

-- the load that words ask for: a seed, how many calls, and by how many threads
abbrev pub load_in : List (List ℕ) → Option Command
load_in (seed ∷ calls ∷ threads ∷ []) =
    option_and_then (λ seed. option_and_then (λ calls. option_map (λ threads. Gen (record { seed = seed; calls = calls; threads = threads }))
    (number_in 1 8 threads))
    (number_in 0 100000 calls))
    (number_in 0 largest_number seed)
load_in words = None

-- the command that words are: `run`, `sched` or `look` with its options, `gen` with its load, or `recover` alone
unfoldable pub command_of : List (List ℕ) → Option Command
command_of [] = None
command_of (first ∷ rest) =
    if bytes_eq first (codes "run") then run_in (first ∷ rest)
    else if bytes_eq first (codes "sched") then sched_in (first ∷ rest)
    else if bytes_eq first (codes "recover") && length rest == 0 then Some Recover
    else if bytes_eq first (codes "look") then look_in rest
    else if bytes_eq first (codes "gen") then load_in rest
    else None

-- words that begin as those of a schedule
abbrev pub names_schedule : List (List ℕ) → Bool
names_schedule [] = false
names_schedule (first ∷ rest) = bytes_eq first (codes "sched")
