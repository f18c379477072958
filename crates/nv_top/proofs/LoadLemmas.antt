-- A run of generated calls over a fresh bench.
use Rattle.std.proofs.Common.{◌≡◌, ◌+◌, ℕ, suc, nat_eq, Bool, true, false, if◌then◌else◌, List, [], ◌∷◌, Option, cond, get_or, length, refl, sym, ap, subst, ◌∙◌, arith}
use Rattle.std.specs.Prelude.{◌≢◌, codes, not, IfOk, IfSome, Result, Ok, Err}
use Rattle.std.specs.Global.{Vec}
use Rattle.std.proofs.lemmas.Result.{IfOk-weaker}
use Rattle.nv_bench.specs.Benches.{BenchState}
use Rattle.nv_open.specs.declared.error.Refusal.{Refusal}
use Rattle.nv_trace.specs.Streams.{Appends}
use Rattle.nv_trace.specs.Traced.{Traced}
use Rattle.nv_trace.specs.declared.read_error.ReadError.TheVariants as read_errors
use Rattle.nv_runner.specs.Histories.{PlacedCall}
use Rattle.nv_runner.specs.Reports.{history_lines}
use Rattle.nv_runner.specs.Streams.{HasWritten}
use Rattle.nv_runner.specs.declared.stream.StreamError.{StreamError}
use Rattle.nv_runner.specs.declared.stream.StreamError.TheVariants as ends
use Rattle.nv_top.specs.Headline.{IsRunRefused}
use Rattle.nv_top.specs.Lives.{LeavesRun, TellsNothing}
use Rattle.nv_top.specs.Ran.{IsUnstreamed, answer_of}
use Rattle.nv_top.specs.RunInputs.{HasRunToEnd}
use Rattle.nv_top.specs.Stops.{CountHasCause}
use Rattle.nv_top.specs.declared.ending.Stop.{Stop}
use Rattle.nv_top.specs.declared.ending.Stop.TheVariants.{Region}
use Rattle.nv_top.specs.declared.input.Input.{Input}
use Rattle.nv_words.specs.declared.words.RunOptions.{RunOptions}
use Rattle.nv_top.proofs.CommandLemmas.{if_told, told_at}
use lib.Pointwise.{pointwise}
use Rattle.nv_plain.specs.Files.{Files}
use Rattle.nv_bench.specs.Holding.{Holding}
use Rattle.nv_open.specs.Adding.{all_names}
use Rattle.nv_open.specs.Begun.{files_with}
use Rattle.nv_trace.specs.Said.{said_place}
use Rattle.nv_runner.specs.Faithful.{Basis, IsFaithful, named}
use Rattle.nv_load.specs.Generated.{IsLoad, declared, generated}
use Rattle.nv_load.specs.Summaries.{FreshSummariesAreOfTheLoad, bytes_of, fresh_basis}
use Rattle.nv_load.specs.declared.load.Load.{Load}
use Rattle.nv_top.specs.Commands.{HasRunOn, HasRunOnBehind, IsBasis}
use Rattle.nv_top.specs.Loads.{HasGenerated, IsFreshFor, NewBenchesAreFresh, load_options}
use Rattle.nv_top.specs.Shows.{summary_text, trace_run}
use Rattle.nv_top.specs.declared.show.Show.TheVariants.{Summary}

-- ---- the file

file_here : (here : Bool) (bytes others : List ℕ) (contents : List (List ℕ)) (place : ℕ) → others ≡ get_or contents place [] → (if here then bytes else others) ≡ get_or (bytes ∷ contents) (cond (not here) (1 + place) 0) []
file_here true bytes others contents place later = refl
file_here false bytes others contents place later =
    let next : suc place ≡ 1 + place = omega arith in
    later ∙ ap (λ n. get_or (bytes ∷ contents) n []) next

-- the bytes of a file stand at the place of its name
pub file_at : (name : List ℕ) (names contents : List (List ℕ)) → length contents ≡ length names → bytes_of name (named names (record { contents = contents })) ≡ get_or contents (said_place name names) []
file_at name [] [] many = refl
file_at name [] (bytes ∷ contents) many = absurd (omega (arith, many))
file_at name (one ∷ names) [] many = absurd (omega (arith, many))
file_at name (one ∷ names) (bytes ∷ contents) many =
    file_here (pointwise nat_eq one name) bytes (bytes_of name (named names (record { contents = contents }))) contents (said_place name names) (file_at name names contents (omega (arith, many)))

-- ---- a fresh bench

abbrev wanted : List (List ℕ)
wanted = codes "g" ∷ []

-- one that has no store is fresh over a blank region
pub new_benches_fresh : NewBenchesAreFresh
new_benches_fresh name parts blank = record { blank = blank; empty = refl }

-- the files of a fresh bench are one, and empty
fresh_files : (holding : Holding) (known : List (List ℕ)) → IsFreshFor (codes "g") holding → known ≡ [] → files_with holding.parts known wanted holding.stores ≡ record { contents = [] ∷ [] }
fresh_files holding known fresh none =
    let With : List (List ℕ) → Files = λ names. files_with holding.parts names wanted holding.stores in
    ap With none ∙ rw fresh.blank (ap (λ (bytes : List ℕ). record { contents = bytes ∷ [] }) fresh.empty)

basis_is : (page entries pages next : ℕ) (names : List (List ℕ)) (files : Files) → page ≡ 64 → entries ≡ 16 → pages ≡ 96 → next ≡ 0 → names ≡ wanted → files ≡ record { contents = [] ∷ [] }
    → record { sizes = record { page = page; entries = entries; pages = pages }; names = names; files = files; next = next } ≡ fresh_basis
basis_is page entries pages next names files page_is entries_is pages_is next_is names_are files_are = cc

fresh_is : (holding : Holding) (basis : Basis) → IsBasis load_options holding wanted basis → IsFreshFor (codes "g") holding → basis ≡ fresh_basis
fresh_is holding basis begun fresh =
    let formatted = begun.begun.formatted fresh.blank in
    basis_is basis.sizes.page basis.sizes.entries basis.sizes.pages basis.next basis.names basis.files (formatted.page_is ∙ begun.page_is) (formatted.entries_is ∙ begun.entries_are) begun.pages_are formatted.next_is
    (begun.names_are ∙ ap (λ known. all_names known wanted) formatted.names_are) (begun.files_are ∙ fresh_files holding begun.known fresh formatted.names_are)

-- the summary of such a run is that of the load
pub generated_so : FreshSummariesAreOfTheLoad → (load : Load) (holding : Holding) (told : Option Holding) (text : List ℕ) → IsLoad load → HasRunOn (Summary load) load_options holding told (generated load) text
    → HasGenerated load holding told text
generated_so alone load holding told text limits ran = record {
  ran = ran;
  alone = λ fresh.
      let From : Basis → Type 0 = λ basis. IsFaithful ⊥ true basis (generated load) ran.report in
      ran.text_is ∙ ap (summary_text load) (alone load ran.report limits (subst From (fresh_is holding ran.basis ran.begun fresh) ran.faithful));
}

-- ---- a run of a load

abbrev as_end : StreamError → Result (Unit {0}) StreamError
as_end error = Err error

-- nothing that is read or written ends it
unstreamed_answer : (ended : Result (Unit {0}) StreamError) (told : Result (Vec ℕ) Stop) → IsUnstreamed ended → answer_of ended told ≡ told
unstreamed_answer (Ok done) told quiet = refl
unstreamed_answer (Err ends.NoMemory) told quiet = refl
unstreamed_answer (Err (ends.Read error)) told quiet = absurd quiet
unstreamed_answer (Err ends.Write) told quiet = absurd quiet

unstreamed_end : (ended : Result (Unit {0}) StreamError) (error : StreamError) → error ≢ ends.NoMemory → IsUnstreamed ended → ended ≢ Err error
unstreamed_end (Ok done) error other quiet is = cc
unstreamed_end (Err ends.NoMemory) error other quiet is = other (same_end error ends.NoMemory (sym is))
  where
    same_end : (one other : StreamError) → as_end one ≡ as_end other → one ≡ other
    same_end one other is = cc
unstreamed_end (Err (ends.Read error)) other apart quiet is = absurd quiet
unstreamed_end (Err ends.Write) error other quiet is = absurd quiet

unstreamed_text : (before now : Option (List ℕ)) (ended : Result (Unit {0}) StreamError) (text : List ℕ) → IsUnstreamed ended → HasWritten before now ended text → Appends before now text
unstreamed_text before now (Ok done) text quiet written = written
unstreamed_text before now (Err ends.NoMemory) text quiet written = written
unstreamed_text before now (Err (ends.Read error)) text quiet written = absurd quiet
unstreamed_text before now (Err ends.Write) text quiet written = absurd quiet

-- What a run of a load comes to: its answer is what it was to tell, and nothing was read, or written before its end.
pub record HasLoadRun (load : Load) (given left : Option (List ℕ)) (reads reads_now : ℕ) (before now : Option (List ℕ)) (writes writes_now : ℕ) (old new : BenchState) (result : Result (Vec ℕ) Stop) : Type 0 where
  pub cause : CountHasCause old.faults new.faults result
  pub ran : IfOk result (λ text. IfSome old.told (λ holding. HasRunOn (Summary load) load_options holding new.told (generated load) text.items))
  pub refused : (why : Refusal) → result ≡ Err (Region why) → IfSome old.told (λ holding. IsRunRefused load_options holding (generated load).names old new why)
  pub life : IfSome old.told (λ was. LeavesRun TellsNothing load_options was (generated load) [] new.told)
  pub unread : (left ≡ given) × (reads_now ≡ reads)
  pub unwritten : Appends before now [] × (writes_now ≡ writes)

pub load_run : (load : Load) (options : RunOptions) (input : Input) (given left : Option (List ℕ)) (reads reads_now : ℕ) (before now : Option (List ℕ)) (writes writes_now : ℕ) (old new : BenchState) (result : Result (Vec ℕ) Stop)
    → options ≡ load_options → input.trace ≡ declared → input.more ≡ false → HasRunToEnd (Summary load) options input given left reads reads_now before now writes writes_now old new result
    → HasLoadRun load given left reads reads_now before now writes writes_now old new result
load_run load options input given left reads reads_now before now writes writes_now old new result options_are trace_is last ran =
    let quiet = ran.streamed.trace.0 in
    let same : ran.told ≡ result = sym (unstreamed_answer ran.ended ran.told quiet) ∙ sym ran.answered in
    let all : ran.all ≡ generated load = ran.streamed.trace.1 ∙ ap (trace_run (Summary load)) trace_is in
    let none : ran.shown ≡ [] = ran.streamed.may_show in
    let Shows : RunOptions → Traced → List PlacedCall → Type 0 = λ options all shown. IfOk ran.told (λ text. IfSome old.told (λ holding. HasRunOnBehind (Summary load) options holding new.told all shown text.items)) in
    let shows : Shows load_options (generated load) [] = subst (Shows load_options (generated load)) none (subst (λ all. Shows load_options all ran.shown) all (subst (λ options. Shows options ran.all ran.shown) options_are ran.ran)) in
    let Lives : RunOptions → Traced → List PlacedCall → Type 0 = λ options all shown. IfSome old.told (λ was. LeavesRun TellsNothing options was all shown new.told) in
    record {
      cause = subst (λ told. CountHasCause old.faults new.faults told) same ran.cause;
      ran = subst (λ told. IfOk told (λ text. IfSome old.told (λ holding. HasRunOn (Summary load) load_options holding new.told (generated load) text.items))) same
          (IfOk-weaker ran.told (λ text. IfSome old.told (λ holding. HasRunOnBehind (Summary load) load_options holding new.told (generated load) [] text.items))
          (λ text. IfSome old.told (λ holding. HasRunOn (Summary load) load_options holding new.told (generated load) text.items))
          (λ text run. if_told old.told (λ holding. HasRunOn (Summary load) load_options holding new.told (generated load) text.items) (λ holding is.
          (told_at old.told (λ holding. HasRunOnBehind (Summary load) load_options holding new.told (generated load) [] text.items) holding is run).0)) shows);
      refused = λ why is.
          subst (λ options. IfSome old.told (λ holding. IsRunRefused options holding (generated load).names old new why)) options_are
          (subst (λ (all : Traced). IfSome old.told (λ holding. IsRunRefused options holding all.names old new why)) all (ran.refused why (same ∙ is)));
      life = subst (Lives load_options (generated load)) none (subst (λ all. Lives load_options all ran.shown) all (subst (λ options. Lives options ran.all ran.shown) options_are ran.life));
      unread = (ran.streamed.unread last, ran.streamed.read_kept (unstreamed_end ran.ended (ends.Read read_errors.Failed) (λ is. cc) quiet));
      unwritten = (
        subst (λ shown. Appends before now (history_lines 0 shown)) none (unstreamed_text before now ran.ended (history_lines 0 ran.shown) quiet ran.streamed.written),
        ran.streamed.write_kept (unstreamed_end ran.ended ends.Write (λ is. cc) quiet),
      );
    }
