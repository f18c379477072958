-- Rows: the placed calls of one pass, as they stand in a history.
use Rattle.std.proofs.Common.{◌≡◌, ℕ, suc, ◌<◌, ◌≤◌, List, [], ◌∷◌, ◌++◌, length, get_or, inl, inr, refl, sym, ap, subst, ◌∙◌, arith}
use Rattle.std.specs.Prelude.{Option}
use Rattle.std.proofs.lemmas.List.{append_assoc, append-nil, length-append, get_or_at}
use Rattle.nv_plain.specs.Histories.{Answered}
use Rattle.nv_core.specs.state.Passes.{IsOneOf}
use Rattle.nv_core.specs.invariant.OneHistory.{IsPrefix}
use Rattle.nv_mount.specs.declared.fds.Fd.{Fd}
use Rattle.nv_trace.specs.declared.trace_call.TracedCall.{TracedCall}
use Rattle.nv_runner.specs.declared.answer.Answer.{Answer}
use Rattle.nv_runner.specs.declared.answer.Answer.TheVariants.{Placed}
use Rattle.nv_runner.specs.Lists as lists
use Rattle.nv_runner.specs.Lists.{MadeCall, Stand, StandsBehind, as_placed, placed, placed_by, placed_on}
use Rattle.nv_runner.specs.Histories.{PlacedCall, StandsAs, placed_calls, placed_in_answer}

-- ---- rows

-- placed calls stand in a history one behind the other, behind these
abbrev pub AreRow : List Fd → (number : ℕ) → (seen : List Answered) → List PlacedCall → (history : List Answered) → Type 0
AreRow fds number seen [] history = IsPrefix seen history
AreRow fds number seen (p ∷ later) history = (upto : List Answered) × StandsBehind fds number seen p.call.call p.place p.reply upto × AreRow fds number upto later history

one_row : (fds : List Fd) (number : ℕ) (seen : List Answered) (call : TracedCall) (answer : Answer) (history : List Answered) (later : List PlacedCall) (LaterStand : List Answered → Type 0)
    → ((upto : List Answered) → LaterStand upto → AreRow fds number upto later history)
    → lists.StandsAs fds number seen call.call answer LaterStand → AreRow fds number seen (placed_in_answer call answer ++ later) history
one_row fds number seen call (Placed place reply) history later LaterStand rows stands = (stands.0, stands.1, rows stands.0 stands.2)
one_row fds number seen call answer history later LaterStand rows stands = rows seen stands

pub stand_in_row : (fds : List Fd) (number : ℕ) (seen : List Answered) (made : List MadeCall) (history : List Answered) → Stand fds number seen made history
    → AreRow fds number seen (placed_calls made) history
stand_in_row fds number seen [] history stand = stand
stand_in_row fds number seen (m ∷ later) history stand =
    one_row fds number seen m.call m.answer history (placed_calls later) (λ upto. Stand fds number upto later history)
    (λ upto stands. stand_in_row fds number upto later history stands) stand

one_counts : (fds : List Fd) (number : ℕ) (seen : List Answered) (call : TracedCall) (answer : Answer) (later : List Answered) (others : List PlacedCall) (LaterStand : List Answered → Type 0)
    → ((upto : List Answered) → LaterStand upto → length later ≡ length others)
    → lists.StandsAs fds number seen call.call answer LaterStand → length (placed_by fds number call.call answer ++ later) ≡ length (placed_in_answer call answer ++ others)
one_counts fds number seen call (Placed place reply) later others LaterStand same stands =
    ap (λ (file : Option ℕ). length (placed_on file number call.call reply ++ later)) stands.1.file_is ∙ ap (λ n. suc n) (same stands.0 stands.2)
one_counts fds number seen call answer later others LaterStand same stands = same seen stands

-- as many of the pass's own calls as have their place
pub as_many : (fds : List Fd) (number : ℕ) (seen : List Answered) (made : List MadeCall) (history : List Answered) → Stand fds number seen made history
    → length (placed fds number made) ≡ length (placed_calls made)
as_many fds number seen [] history stand = refl
as_many fds number seen (m ∷ later) history stand =
    one_counts fds number seen m.call m.answer (placed fds number later) (placed_calls later) (λ upto. Stand fds number upto later history)
    (λ upto stands. as_many fds number upto later history stands) stand

-- ---- where they stand

pub prefix_refl : (xs : List Answered) → IsPrefix xs xs
prefix_refl xs = ([], sym (append-nil xs))

prefix_trans : (xs ys zs : List Answered) → IsPrefix xs ys → IsPrefix ys zs → IsPrefix xs zs
prefix_trans xs ys zs first second =
    (first.0 ++ second.0, second.1 ∙ ap (λ (l : List Answered). l ++ second.0) first.1 ∙ append_assoc xs first.0 second.0)

pub prefix_length : (xs ys : List Answered) → IsPrefix xs ys → length xs ≤ length ys
prefix_length xs ys first = let long = ap length first.1 ∙ length-append xs first.0 in omega arith

pub row_begins : (fds : List Fd) (number : ℕ) (seen : List Answered) (row : List PlacedCall) (history : List Answered) → AreRow fds number seen row history → IsPrefix seen history
row_begins fds number seen [] history are = are
row_begins fds number seen (p ∷ later) history are =
    let behind = are.1 in
    let entry = as_placed number p.call.call behind.file p.reply ∷ [] in
    prefix_trans seen are.0 history (behind.between ++ entry, behind.upto_is ∙ append_assoc seen behind.between entry) (row_begins fds number are.0 later history are.2)

-- a placed call has its place in a history, and stands there
pub record IsIn (fds : List Fd) (seen history : List Answered) (p : PlacedCall) : Type 0 where
  pub behind : length seen ≤ p.place
  pub within : p.place < length history
  pub entry : Answered
  pub at : (d : Answered) → get_or history p.place d ≡ entry
  pub stands : StandsAs fds p entry

-- the first of them
head_is_in : (fds : List Fd) (number : ℕ) (seen history upto : List Answered) (p : PlacedCall) → StandsBehind fds number seen p.call.call p.place p.reply upto → IsPrefix upto history
    → IsIn fds seen history p
head_is_in fds number seen history upto p is begins =
    let entry = as_placed number p.call.call is.file p.reply in
    let before = seen ++ is.between in
    let whole : history ≡ before ++ entry ∷ begins.0 =
    begins.1 ∙ ap (λ (l : List Answered). l ++ begins.0) is.upto_is ∙ append_assoc before (entry ∷ []) begins.0 in
    let long = length-append seen is.between in
    let longer = ap length whole ∙ length-append before (entry ∷ begins.0) in
    let at = is.at in record {
      behind = omega arith;
      within = omega arith;
      entry = entry;
      at = λ d. ap (λ (l : List Answered). get_or l p.place d) whole ∙ get_or_at before entry begins.0 d p.place (sym is.at);
      stands = record { file = is.file; file_is = is.file_is; call = refl; reply = refl };
    }

pub row_is_in : (fds : List Fd) (number : ℕ) (seen : List Answered) (row : List PlacedCall) (history : List Answered) → AreRow fds number seen row history
    → (p : PlacedCall) → IsOneOf row p → IsIn fds seen history p
row_is_in fds number seen [] history are p one = absurd one
row_is_in fds number seen (first ∷ later) history are p (inl is) =
    subst (IsIn fds seen history) (sym is) (head_is_in fds number seen history are.0 first are.1 (row_begins fds number are.0 later history are.2))
row_is_in fds number seen (first ∷ later) history are p (inr one) =
    let found = row_is_in fds number are.0 later history are.2 p one in
    let behind = are.1 in
    let long = ap length behind.upto_is ∙ length-append (seen ++ behind.between) (as_placed number first.call.call behind.file first.reply ∷ []) in
    let longer = length-append seen behind.between in
    let least = found.behind in record { behind = omega arith; within = found.within; entry = found.entry; at = found.at; stands = found.stands }

-- behind the first of them
pub head_before : (fds : List Fd) (number : ℕ) (seen : List Answered) (first : PlacedCall) (later : List PlacedCall) (history : List Answered) → AreRow fds number seen (first ∷ later) history
    → (p : PlacedCall) → IsOneOf later p → first.place < p.place
head_before fds number seen first later history are p one =
    let behind = are.1 in
    let least = (row_is_in fds number are.0 later history are.2 p one).behind in
    let at = behind.at in
    let long = ap length behind.upto_is ∙ length-append (seen ++ behind.between) (as_placed number first.call.call behind.file first.reply ∷ []) in
    omega arith
