-- Complete: a call whose steps find what they need is refused by none of them.
use Rattle.std.proofs.Common.{◌≡◌, ℕ, ◌+◌, ◌^◌, ◌==◌, nat_le, ◌&&◌, Bool, true, false, if◌then◌else◌, List, [], ◌∷◌, refl, sym, ap, ap₂, subst, ◌∙◌, eq-eqb, eqb-true, ne_eqb}
use Rattle.std.specs.Prelude.{Option, Some, None, nat_lt, not, Result, Ok, Err}
use Rattle.std.proofs.lemmas.Bool.{lt-ltb, le-ltb, le-leb, leb-true, ltb-true}
use Rattle.nv_plain.specs.declared.call.FileCall.{FileCall}
use Rattle.nv_plain.specs.declared.call.FileCall.TheVariants.{Sync}
use Rattle.nv_plain.specs.declared.call.Reply.TheVariants.{Done as Replied}
use Rattle.nv_core.specs.invariant.Ownership.{is_among}
use Rattle.nv_core.specs.state.Passes.{first_page, end_page, page_count, is_write, plain_call}
use Rattle.nv_core.specs.state.Words.{Sizes, Word, STOP, ORDER, HEAD, TAIL, PAGE, place}
use Rattle.nv_core.specs.steps.Ops.{Op, Load, Take, Place, Stop, Draw}
use Rattle.nv_core.specs.steps.Order.{Work}
use Rattle.nv_table.specs.state.States.{PassState}
use Rattle.nv_mirror.specs.declared.answers.Done.{Done}
use Rattle.nv_mirror.specs.declared.answers.Refusal.{Refusal}
use Rattle.nv_mirror.specs.declared.answers.Refusal.TheVariants.{BadFd, Busy, Stopped, Spent, Again, Raced}
use Rattle.nv_mirror.specs.PassSteps.{PassStep, HasMade, either_of, busy_at, fault_in, head_in, refusal_in, refused_by}
use Rattle.nv_mirror.proofs.StepLaws.{between_self, taken_by}
use Rattle.nv_calls.specs.fsync.SyncRuns.{file_of_fd, IsSyncRun}
use Rattle.nv_calls.specs.histories.Complete.{AllFind, Finds, IsComplete, NoneFailed, SyncsAreComplete}
use Rattle.nv_mirror.specs.Answers.{refusal_in_answer}
use Rattle.nv_calls.specs.calls.EndedCalls.{IsCallOver}

free_so : (sizes : Sizes) (cell : Word) (found : ℕ) → found ≡ 0 → busy_at sizes cell found ≡ None
free_so sizes cell found free = ap (λ b. if b then None else Some (Busy (place sizes cell))) (eq-eqb found 0 free)

own_so : (among : Bool) (free : Bool) (busy : Option Refusal) → (among ≡ true → free ≡ true) → (if free then None else (if among then busy else None)) ≡ None
own_so true free busy so = ap (λ b. if b then None else busy) (so refl)
own_so false true busy so = refl
own_so false false busy so = refl

room_so : (write room : Bool) (refusal : Refusal) → (write ≡ true → room ≡ true) → (if write && not room then Some refusal else None) ≡ None
room_so true room refusal so = ap (λ b. if true && not b then Some refusal else None) (so refl)
room_so false room refusal so = refl

-- a step that finds what it needs refuses nothing
finds_on : (sizes : Sizes) (call : FileCall) (head : ℕ) (works : List Work) (op : Op) (found : ℕ) → Finds sizes call head op found → fault_in works ≡ None → refused_by sizes call head works op found ≡ None
finds_on sizes call head works (Take (PAGE page)) found finds sound =
    own_so (is_among (first_page sizes call) (end_page sizes call) page) (found == 0) (busy_at sizes (PAGE page) found) (λ own. eq-eqb found 0 (finds own))
finds_on sizes call head works (Take cell) found finds sound = free_so sizes cell found finds
finds_on sizes call head works (Load STOP) found finds sound = ap (λ b. if b then None else Some Stopped) (eq-eqb found 0 finds)
finds_on sizes call head works (Load ORDER) found finds sound = ap (λ b. if b then None else Some (Spent found)) (lt-ltb found (2 ^ 60) finds)
finds_on sizes call head works (Load HEAD) found finds sound =
    room_so (is_write call) (nat_le (found + page_count sizes call) (2 ^ 60)) (Spent found) (λ write. le-leb (found + page_count sizes call) (2 ^ 60) (finds write))
finds_on sizes call head works (Load TAIL) found finds sound =
    room_so (is_write call) (nat_le (head + page_count sizes call) (found + sizes.entries)) (Again head found) (λ write. le-leb (head + page_count sizes call) (found + sizes.entries) (finds write))
finds_on sizes call head works Draw found finds sound = ap (λ b. if b then None else Some (Raced head found)) (eq-eqb found head finds)
finds_on sizes call head works Stop found finds sound = sound
finds_on sizes call head works op found finds sound = refl

all_find_on : (sizes : Sizes) (call : FileCall) (steps : List PassStep) → AllFind sizes call steps → refusal_in sizes call steps ≡ None
all_find_on sizes call [] find = refl
all_find_on sizes call (step ∷ earlier) find =
    ap₂ either_of (all_find_on sizes call earlier find.2) (finds_on sizes call (head_in earlier) step.works step.op step.found find.0 find.1)

-- and one that refuses nothing has found what it needs
one_back : (free : Bool) (busy : Refusal) → (if free then None else Some busy) ≡ None → free ≡ true
one_back true busy open_ = refl
one_back false busy open_ = absurd (cc)

own_back : (free among : Bool) (busy : Refusal) → (if free then None else (if among then (if free then None else Some busy) else None)) ≡ None → among ≡ true → free ≡ true
own_back true among busy open_ own = refl
own_back false true busy open_ own = absurd (cc)
own_back false false busy open_ own = absurd (cc)

room_back : (write room : Bool) (refusal : Refusal) → (if write && not room then Some refusal else None) ≡ None → write ≡ true → room ≡ true
room_back true true refusal open_ write = refl
room_back true false refusal open_ write = absurd (cc)
room_back false room refusal open_ write = absurd (cc)

finds_back : (sizes : Sizes) (call : FileCall) (head : ℕ) (works : List Work) (op : Op) (found : ℕ) → refused_by sizes call head works op found ≡ None → Finds sizes call head op found
finds_back sizes call head works (Take (PAGE page)) found open_ =
    λ own. eqb-true found 0 (own_back (found == 0) (is_among (first_page sizes call) (end_page sizes call) page) (Busy (place sizes (PAGE page))) open_ own)
finds_back sizes call head works (Take cell) found open_ = eqb-true found 0 (one_back (found == 0) (Busy (place sizes cell)) open_)
finds_back sizes call head works (Load STOP) found open_ = eqb-true found 0 (one_back (found == 0) Stopped open_)
finds_back sizes call head works (Load ORDER) found open_ = ltb-true found (2 ^ 60) (one_back (nat_lt found (2 ^ 60)) (Spent found) open_)
finds_back sizes call head works (Load HEAD) found open_ =
    λ write. leb-true (found + page_count sizes call) (2 ^ 60) (room_back (is_write call) (nat_le (found + page_count sizes call) (2 ^ 60)) (Spent found) open_ write)
finds_back sizes call head works (Load TAIL) found open_ =
    λ write. leb-true (head + page_count sizes call) (found + sizes.entries) (room_back (is_write call) (nat_le (head + page_count sizes call) (found + sizes.entries)) (Again head found) open_ write)
finds_back sizes call head works Draw found open_ = eqb-true found head (one_back (found == head) (Raced head found) open_)
finds_back sizes call head works op found open_ = tt

either_none : (one other : Option Refusal) → either_of one other ≡ None → (one ≡ None) × (other ≡ None)
either_none (Some refusal) other none = absurd (cc)
either_none None other none = (refl, none)

all_found : (sizes : Sizes) (call : FileCall) (steps : List PassStep) → refusal_in sizes call steps ≡ None → NoneFailed steps → AllFind sizes call steps
all_found sizes call [] open_ sound = tt
all_found sizes call (step ∷ earlier) open_ sound =
    let both = either_none (refusal_in sizes call earlier) (refused_by sizes call (head_in earlier) step.works step.op step.found) open_ in
    (finds_back sizes call (head_in earlier) step.works step.op step.found both.1, sound.0, all_found sizes call earlier both.0 sound.1)

-- so its call is done
done_where_all_find : (sizes : Sizes) (call : FileCall) (steps : List PassStep) (result : Result Done Refusal) → refusal_in sizes call steps ≡ refusal_in_answer result → AllFind sizes call steps → (answer : Done) × (result ≡ Ok answer)
done_where_all_find sizes call steps (Ok answer) is find = (answer, refl)
done_where_all_find sizes call steps (Err refusal) is find = let never : None ≡ Some refusal = sym (all_find_on sizes call steps find) ∙ is in absurd (cc)

-- a call of a file that is over by such steps, and one that is refused by what it asks for
made_complete : (asks : (file : ℕ) → FileCall) (early : Option Refusal) (file : Option ℕ) (one : ℕ) (start now : PassState) (result : Result Done Refusal) → file ≡ Some one → (steps : List PassStep) → HasMade steps start now
    → refusal_in start.view.opened.sizes (plain_call (asks one)) steps ≡ refusal_in_answer result → IsComplete asks early file start now result
made_complete asks early file one start now result at steps made refused = record {
  steps = steps;
  made = made;
  done = λ none other at_other find.
      let same : other ≡ one = some_same other one (sym at_other ∙ at) in
      done_where_all_find start.view.opened.sizes (plain_call (asks one)) steps result refused (subst (λ f. AllFind start.view.opened.sizes (plain_call (asks f)) steps) same find);
  needed = λ answer is other at_other sound.
      let same : one ≡ other = some_same one other (sym at ∙ at_other) in
      subst (λ f. AllFind start.view.opened.sizes (plain_call (asks f)) steps) same (all_found start.view.opened.sizes (plain_call (asks one)) steps (refused ∙ ap refusal_in_answer is) sound);
}
  where
    some_same : (one other : ℕ) → Some one ≡ Some other → one ≡ other
    some_same one other is = cc

refused_complete : (asks : (file : ℕ) → FileCall) (early : Option Refusal) (refusal : Refusal) (file : Option ℕ) (start now : PassState) (result : Result Done Refusal) → now ≡ start → Some refusal ≡ early → IsComplete asks early file start now result
refused_complete asks early refusal file start now result made is = record { steps = []; made = made; done = λ none other at_other find. let clash : Some refusal ≡ None = is ∙ none in absurd (cc); needed = λ answer done other at_other sound. tt }

-- ---- a read or a write that is over

by_complete : (by early : Option Refusal) (file : Option ℕ) (asks : ℕ → FileCall) (start now : PassState) (result : Result Done Refusal) → by ≡ early → IsCallOver by file asks start now result → IsComplete asks early file start now result
by_complete (Some refusal) early file asks start now result is over = refused_complete asks early refusal file start now result over.1 is
by_complete None early file asks start now result is over = made_complete asks early file over.0 start now result over.1 over.2.steps over.2.made over.2.refused

pub over_complete : (early : Option Refusal) (file : Option ℕ) (asks : ℕ → FileCall) (start now : PassState) (result : Result Done Refusal) → IsCallOver early file asks start now result → IsComplete asks early file start now result
over_complete early file asks start now result over = by_complete early early file asks start now result refl over

-- ---- a sync that is over

sync_run_complete : (file : Option ℕ) (start now : PassState) (result : Result Done Refusal) → IsSyncRun file start now result → IsComplete (λ one. Sync one) None file start now result
sync_run_complete None start now (Err BadFd) sync_run = record { steps = []; made = sync_run; done = λ none one is find. absurd (cc); needed = λ answer done one is sound. tt }
sync_run_complete (Some file) start now (Err Stopped) sync_run =
    made_complete (λ one. Sync one) None (Some file) file start now (Err Stopped) refl (record { opens = Some (Sync file); works = sync_run.stop.works; op = Load STOP; found = sync_run.found } ∷ [])
    (start, refl, taken_by start start now (Some (Sync file)) (Load STOP) sync_run.found (between_self start) sync_run.stop)
    (ap (λ b. if b then None else Some Stopped) (ne_eqb sync_run.found 0 sync_run.set))
sync_run_complete (Some file) start now (Err (Spent found)) sync_run =
    made_complete (λ one. Sync one) None (Some file) file start now (Err (Spent found)) refl
    (record { opens = None; works = sync_run.order.works; op = Load ORDER; found = found } ∷ record { opens = Some (Sync file); works = sync_run.stop.works; op = Load STOP; found = 0 } ∷ []) (
      sync_run.begun,
      (start, refl, taken_by start start sync_run.begun (Some (Sync file)) (Load STOP) 0 (between_self start) sync_run.stop),
      taken_by sync_run.begun sync_run.begun now None (Load ORDER) found (between_self sync_run.begun) sync_run.order,
    )
    (ap (λ b. if b then None else Some (Spent found)) (le-ltb found (2 ^ 60) sync_run.spent))
sync_run_complete (Some file) start now (Ok answer) sync_run =
    made_complete (λ one. Sync one) None (Some file) file start now (Ok answer) refl
    (record { opens = None; works = sync_run.places.works; op = Place Replied; found = answer.place } ∷ record { opens = None; works = sync_run.order.works; op = Load ORDER; found = sync_run.found }
    ∷ record { opens = Some (Sync file); works = sync_run.stop.works; op = Load STOP; found = 0 } ∷ []) (
      sync_run.loaded,
      (
        sync_run.begun,
        (start, refl, taken_by start start sync_run.begun (Some (Sync file)) (Load STOP) 0 (between_self start) sync_run.stop),
        taken_by sync_run.begun sync_run.begun sync_run.loaded None (Load ORDER) sync_run.found (between_self sync_run.begun) sync_run.order,
      ),
      taken_by sync_run.loaded sync_run.loaded now None (Place Replied) answer.place (between_self sync_run.loaded) sync_run.places,
    )
    (ap (λ b. either_of (if b then None else Some (Spent sync_run.found)) None) (lt-ltb sync_run.found (2 ^ 60) sync_run.low))
sync_run_complete file start now result sync_run = absurd sync_run

pub syncs_are_complete : SyncsAreComplete
syncs_are_complete fds fd start now result sync_run = sync_run_complete (file_of_fd fds fd) start now result sync_run
