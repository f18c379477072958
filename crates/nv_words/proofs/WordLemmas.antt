-- What command words are, and what its options say.
use Rattle.std.proofs.Common.{◌≡◌, ◌∙◌, ◌≢◌, ◌-◌, if◌then◌else◌, ◌≤◌, length, map, take, drop, arith, ℕ, Bool, true, false, Bor, fold, List, [], ◌∷◌, Option, Some, None, refl, sym, subst, ap}
use Rattle.std.proofs.lemmas.Bool.{and_parts, false≢true}
use Rattle.std.proofs.lemmas.List.{take_all}
use Rattle.std.proofs.lemmas.Slice.Eq.{bytes_eq-Decides}
use Rattle.clap.specs.Kinds.{Kinds}
use Rattle.clap.specs.Faults.{is_free_app}
use Rattle.std.specs.Prelude.{IfOk, Result, Ok, Err, String, codes, string_bytes, slice_index_or, option_map}
use Rattle.std.specs.Result.{result_ok}
use Rattle.std.specs.Str.{bytes_eq}
use Rattle.std.specs.List.{list_any}
use Rattle.clap.specs.Words.{App, Row, built, fault_of, is_simple, is_simple_and_free, matches_of, with_rule}
use Rattle.nv_words.specs.Words.{command_of, is_dashes, load_in, look_in, option_rule, options_behind, options_in, run_app, run_in, sched_app, sched_in, unless_refused}
use Rattle.nv_words.specs.declared.words.Command.TheVariants.{Run, Sched}
use Rattle.nv_words.specs.declared.words.RunOptions.{RunOptions}

-- the options need nothing of `clap` but what its clauses speak of
simple : is_simple_and_free run_app ≡ true
unfolding run_app
simple = refl

pub run_is_free : (app : App) → app ≡ run_app → is_simple_and_free app ≡ true
run_is_free app is =
    let Free : App → Type 0 = λ app. is_simple_and_free app ≡ true in
    subst Free (sym is) simple

sched_simple : is_simple_and_free sched_app ≡ true
unfolding sched_app
sched_simple = refl

pub sched_is_free : (app : App) → app ≡ sched_app → is_simple_and_free app ≡ true
sched_is_free app is =
    let Free : App → Type 0 = λ app. is_simple_and_free app ≡ true in
    subst Free (sym is) sched_simple

-- what these options say is the run, and the schedule
pub run_said : (app : App) (words : List (List ℕ)) (options : RunOptions) → app ≡ run_app → options_behind app words ≡ Some options → run_in words ≡ Some (Run options)
run_said app words options is said =
    let Said : App → Type 0 = λ app. options_behind app words ≡ Some options in
    ap (option_map Run) (subst Said is said)

pub sched_said : (app : App) (words : List (List ℕ)) (options : RunOptions) → app ≡ sched_app → options_behind app words ≡ Some options → sched_in words ≡ Some (Sched options)
sched_said app words options is said =
    let Said : App → Type 0 = λ app. options_behind app words ≡ Some options in
    ap (option_map Sched) (subst Said is said)

-- and there is none where they say none
pub run_unsaid : (app : App) (words : List (List ℕ)) → app ≡ run_app → options_behind app words ≡ None → run_in words ≡ None
run_unsaid app words is none =
    let None_said : App → Type 0 = λ app. options_behind app words ≡ None in
    ap (option_map Run) (subst None_said is none)

pub sched_unsaid : (app : App) (words : List (List ℕ)) → app ≡ sched_app → options_behind app words ≡ None → sched_in words ≡ None
sched_unsaid app words is none =
    let None_said : App → Type 0 = λ app. options_behind app words ≡ None in
    ap (option_map Sched) (subst None_said is none)

pub free_is_simple : (app : App) → is_simple_and_free app ≡ true → is_simple app ≡ true
free_is_simple app free = (and_parts (is_simple app) (is_free_app (built app)) free).0

-- what words say, by whether one is `--` and by what `clap` finds fault with
abbrev said_by : Bool → Kinds → Option RunOptions → Option RunOptions
said_by dashes faults found = if dashes then None else unless_refused faults found

by_dashes : (dashes : Bool) (faults : Kinds) (found : Option RunOptions) → dashes ≡ true → said_by dashes faults found ≡ None
by_dashes true faults found is = refl
by_dashes false faults found is = absurd (false≢true is)

by_refusal : (dashes : Bool) (faults : Kinds) (found : Option RunOptions) → faults ≢ [] → said_by dashes faults found ≡ None
by_refusal true faults found some = refl
by_refusal false [] found some = absurd (some refl)
by_refusal false (first ∷ rest) found some = refl

by_taking : (dashes : Bool) (faults : Kinds) (found : Option RunOptions) → dashes ≡ false → faults ≡ [] → said_by dashes faults found ≡ found
by_taking true faults found is none = absurd (false≢true (sym is))
by_taking false [] found is none = refl
by_taking false (first ∷ rest) found is none = cc

-- none, where one of the words is `--`
pub none_dashes : (app : App) (words : List (List ℕ)) → list_any is_dashes words ≡ true → options_behind app words ≡ None
none_dashes app words = by_dashes (list_any is_dashes words) (fault_of app words) (options_in (matches_of app words))

-- none, where `clap` refuses them
pub none_refused : (app : App) (words : List (List ℕ)) → fault_of app words ≢ [] → options_behind app words ≡ None
none_refused app words = by_refusal (list_any is_dashes words) (fault_of app words) (options_in (matches_of app words))

-- and else what their options say
pub taken : (app : App) (words : List (List ℕ)) (rows : List Row) → list_any is_dashes words ≡ false → fault_of app words ≡ [] → rows ≡ matches_of app words
    → options_behind app words ≡ options_in rows
taken app words rows dashes none same =
    by_taking (list_any is_dashes words) (fault_of app words) (options_in (matches_of app words)) dashes none ∙ ap options_in (sym same)

-- what is answered of what was found is that
pub ok_found : {T E : Type 0} (result : Result T E) (found : Option T) → found ≡ result_ok result → IfOk result (λ value. found ≡ Some value)
ok_found (Ok value) found is = is
ok_found (Err error) found is = tt

-- ---- words by the first of them

-- words that begin with this one
pub begun : {Z : Type 0} (words : List (String Z)) (none : String Z) (word : List ℕ) → 1 ≤ length words → bytes_eq (string_bytes (slice_index_or words 0 none)) word ≡ true
    → map string_bytes words ≡ word ∷ map string_bytes (take (length words - 1) (drop 1 words))
begun [] none word some is = absurd (omega arith)
begun (first ∷ rest) none word some is =
    ap (λ word. word ∷ map string_bytes rest) ((bytes_eq-Decides (string_bytes first) word).0 is)
    ∙ ap (λ rest. word ∷ map string_bytes rest) (sym (take_all (length (first ∷ rest) - 1) rest (omega arith)))

-- are the command that it names
pub begun_run : (words rest : List (List ℕ)) → words ≡ codes "run" ∷ rest → command_of words ≡ run_in words
unfolding command_of
begun_run words rest is =
    let Is : List (List ℕ) → Type 0 = λ words. command_of words ≡ run_in words in
    subst Is (sym is) refl

pub begun_sched : (words rest : List (List ℕ)) → words ≡ codes "sched" ∷ rest → command_of words ≡ sched_in words
unfolding command_of
begun_sched words rest is =
    let Is : List (List ℕ) → Type 0 = λ words. command_of words ≡ sched_in words in
    subst Is (sym is) refl

pub begun_look : (words rest : List (List ℕ)) → words ≡ codes "look" ∷ rest → command_of words ≡ look_in rest
unfolding command_of
begun_look words rest is =
    let Is : List (List ℕ) → Type 0 = λ words. command_of words ≡ look_in rest in
    subst Is (sym is) refl

pub begun_gen : (words rest : List (List ℕ)) → words ≡ codes "gen" ∷ rest → command_of words ≡ load_in rest
unfolding command_of
begun_gen words rest is =
    let Is : List (List ℕ) → Type 0 = λ words. command_of words ≡ load_in rest in
    subst Is (sym is) refl

-- ---- options that are added one after another

-- names that are borrowed are added as what they are
pub named_added : (start : App) (names : List (Bor (List ℕ)))
    → fold (λ app name. with_rule app (option_rule name.now)) start names ≡ fold (λ app name. with_rule app (option_rule name)) start (map (λ name. name.now) names)
named_added start [] = refl
named_added start (name ∷ rest) = named_added (with_rule start (option_rule name.now)) rest
