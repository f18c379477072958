-- The present states of devices: of one, of one before and after a call, and of a row.
use Rattle.std.proofs.Common.{◌≡◌, ◌↔◌, ℕ, ◌<◌, List, [], ◌∷◌, ◌++◌, All, length, get_or, set, slice_index_or, slice_set, zero, suc, refl, sym, ap, ◌∙◌, subst, arith, inl, inr}
use Rattle.std.proofs.lemmas.Bool.{cases_eq}
use Rattle.std.proofs.lemmas.List.{length-set, get_or-set_same, get_or-set_other, get_or_default}
use Rattle.std.proofs.lemmas.List.Elements.{All-nil, All-cons, All-head, All-tail}
use Rattle.std.specs.Prelude.{take, Result, Ok, Err, IfErr, OnOk}
use Rattle.nv_pmem.specs.Moments.{Tells, EachMoment}
use Rattle.nv_pmem.specs.Rows.{RowTells}
use Rattle.nv_pmem.specs.Runs.{RanSome, grown}
use Rattle.nv_pmem.proofs.RowLaws.{row_tells_more, row_tells_both}
use Rattle.nv_pmem.proofs.StepLaws.{grown-told, grown-untold}
use Rattle.nv_pmem.specs.RowStates.{AreNow, IsNow, row_tells_at, row_tells_from, tells_at}
use Rattle.nv_recover.specs.Emptying.{BothTell}
use Rattle.nv_recover.specs.Telling.{AllTell}

-- ---- a device

-- a device that tells has one
pub record Present {S : Type 0} (history : List S) : Type 0 where
  pub state : S
  pub is : IsNow history state

pub present : {S : Type 0} (history : List S) → 0 < length history → Present history
present [] some = absurd (omega arith)
present (now ∷ past) some = record { state = now; is = record { past = past; is = refl } }

cons_same : {S : Type 0} (a b : S) (past other : List S) → a ∷ past ≡ b ∷ other → a ≡ b
cons_same a b past other is = cc

pub now_same : {S : Type 0} {history : List S} {a b : S} → IsNow history a → IsNow history b → a ≡ b
now_same {history} {a} {b} one other = cons_same a b one.past other.past (sym one.is ∙ other.is)

-- ---- a device before and after a call

-- the present state is the present state
pub both_itself : {S : Type 0} (history : List S) → BothTell history history (λ was now. now ≡ was)
both_itself [] = tt
both_itself (now ∷ past) = refl

pub both_more : {S : Type 0} (old new : List S) (R Q : S → S → Type 0) → ((was now : S) → R was now → Q was now) → BothTell old new R → BothTell old new Q
both_more [] new R Q step told = tt
both_more (was ∷ past) [] R Q step told = tt
both_more (was ∷ past) (now ∷ rest) R Q step told = step was now told

pub both_both : {S : Type 0} (old new : List S) (R Q : S → S → Type 0) → BothTell old new R → BothTell old new Q → BothTell old new (λ was now. R was now × Q was now)
both_both [] new R Q a b = tt
both_both (was ∷ past) [] R Q a b = tt
both_both (was ∷ past) (now ∷ rest) R Q a b = (a, b)

-- what the earlier state tells, and the later one
pub both_old : {S : Type 0} (old new : List S) (P : S → Type 0) → Tells old P → BothTell old new (λ was now. P was)
both_old [] new P told = tt
both_old (was ∷ past) [] P told = tt
both_old (was ∷ past) (now ∷ rest) P told = told

pub both_new : {S : Type 0} (old new : List S) (Q : S → Type 0) → Tells new Q → BothTell old new (λ was now. Q now)
both_new [] new Q told = tt
both_new (was ∷ past) new Q told = told

-- what the later one tells where the earlier one does
pub both_step : {S : Type 0} (old new : List S) (P Q : S → Type 0) → (Tells old P → Tells new Q) → BothTell old new (λ was now. P was → Q now)
both_step [] new P Q step = tt
both_step (was ∷ past) [] P Q step = tt
both_step (was ∷ past) (now ∷ rest) P Q step = step

-- the last moment is the present state
last_moment : {S : Type 0} (P : S → Type 0) (was now : S) (past rest since : List S) → now ∷ rest ≡ since ++ was ∷ past → P was → All P since → P now
last_moment {S = S} P was now past rest [] states first each = subst P (sym (ap (λ (these : List S). get_or these 0 now) states)) first
last_moment {S = S} P was now past rest (last ∷ since) states first each =
    subst P (sym (ap (λ (these : List S). get_or these 0 now) states)) (All-head P last since each)

pub both_moments : {S : Type 0} (old new : List S) (P : S → S → Type 0) → Tells old (λ was. EachMoment (P was) old new) → BothTell old new P
both_moments [] new P told = tt
both_moments (was ∷ past) [] P told = tt
both_moments (was ∷ past) (now ∷ rest) P told =
    last_moment (P was) was now past rest told.since told.states told.at_first told.each

-- a device tells after a call if it did before it, and only then
pub some_tells : {T S : Type 0} {after : T → S → S} {steps : List T} {old new : List S} → RanSome (grown after) steps old new → (0 < length old) ↔ (0 < length new)
some_tells {after = after} {steps} {old = []} did =
    (λ some. absurd (omega arith), λ some. absurd (omega (arith, ap length (did.states ∙ grown-untold after (take did.count steps)))))
some_tells {after = after} {steps} {old = now ∷ past} did =
    (λ some. omega (arith, ap length (did.states ∙ (grown-told after (take did.count steps) now past).1)), λ some. omega arith)

-- what the two present states have
both_at : {S : Type 0} (old new : List S) (R : S → S → Type 0) (was now : S) → IsNow old was → IsNow new now → BothTell old new R → R was now
both_at old new R was now is_old is_new told = tells_at new (R was) now is_new (tells_at old (λ before. Tells new (R before)) was is_old told)

-- ---- a row

pub are_now_same : {S : Type 0} (row : List (List S)) (a b : List S) → AreNow row a → AreNow row b → a ≡ b
are_now_same [] [] [] one other = refl
are_now_same [] [] (y ∷ b) one other = absurd other
are_now_same [] (x ∷ a) b one other = absurd one
are_now_same (history ∷ row) [] b one other = absurd one
are_now_same (history ∷ row) (x ∷ a) [] one other = absurd other
are_now_same (history ∷ row) (x ∷ a) (y ∷ b) one other =
    ap (λ s. s ∷ a) (now_same one.0 other.0) ∙ ap (λ rest. y ∷ rest) (are_now_same row a b one.1 other.1)

-- a row of which all tell has present states, and a row that has them tells
pub record Presents {S : Type 0} (row : List (List S)) : Type 0 where
  pub states : List S
  pub are : AreNow row states

pub presents : {S : Type 0} (row : List (List S)) → AllTell row → Presents row
presents [] tell = record { states = []; are = tt }
presents {S} ([] ∷ row) tell = absurd (omega (arith, All-head (λ (history : List S). 0 < length history) [] row tell))
presents {S} ((now ∷ past) ∷ row) tell =
    let rest = presents row (All-tail (λ (history : List S). 0 < length history) (now ∷ past) row tell) in
    record { states = now ∷ rest.states; are = (record { past = past; is = refl }, rest.are) }

now_tells : {S : Type 0} (history : List S) (now : S) → IsNow history now → 0 < length history
now_tells history now one = omega (arith, ap length one.is)

pub presents_tell : {S : Type 0} (row : List (List S)) (states : List S) → AreNow row states → AllTell row
presents_tell {S} [] states are = All-nil (λ (history : List S). 0 < length history)
presents_tell (history ∷ row) [] are = absurd are
presents_tell {S} (history ∷ row) (now ∷ states) are =
    All-cons (λ (history : List S). 0 < length history) history row (now_tells history now are.0) (presents_tell row states are.1)

pub rows_have_states : {S : Type 0} (row : List (List S)) → AllTell row ↔ ((states : List S) × AreNow row states)
rows_have_states row = (λ tell. let here = presents row tell in (here.states, here.are), λ here. presents_tell row here.0 here.1)

pub presents_long : {S : Type 0} (row : List (List S)) (states : List S) → AreNow row states → length states ≡ length row
presents_long [] [] are = refl
presents_long [] (now ∷ states) are = absurd are
presents_long (history ∷ row) [] are = absurd are
presents_long (history ∷ row) (now ∷ states) are = ap suc (presents_long row states are.1)

pub present_at : {S : Type 0} (row : List (List S)) (states : List S) (i : ℕ) (d : S) → i < length row → AreNow row states → IsNow (get_or row i []) (get_or states i d)
present_at [] states i d inside are = absurd (omega arith)
present_at (history ∷ row) [] i d inside are = absurd are
present_at (history ∷ row) (now ∷ states) zero d inside are = are.0
present_at (history ∷ row) (now ∷ states) (suc i) d inside are = present_at row states i d (omega arith) are.1

-- the present states before and after one history of a row changed
pub record OneChanged {S : Type 0} (row : List (List S)) (i : ℕ) (history : List S) (was now : List S) : Type 0 where
  pub old : S
  pub new : S
  pub was_now : IsNow (get_or row i []) old
  pub is_now : IsNow history new
  pub old_is : (none : S) → get_or was i none ≡ old
  pub is : now ≡ set was i new

pub one_changed : {S : Type 0} (row : List (List S)) (i : ℕ) (history : List S) (was now : List S) → i < length row → AreNow row was → AreNow (set row i history) now → OneChanged row i history was now
one_changed [] i history was now inside are were = absurd (omega arith)
one_changed (h ∷ row) zero history [] now inside are were = absurd are
one_changed (h ∷ row) zero history (w ∷ was) [] inside are were = absurd were
one_changed (h ∷ row) zero history (w ∷ was) (n ∷ now) inside are were = record {
  old = w;
  new = n;
  was_now = are.0;
  is_now = were.0;
  old_is = λ none. refl;
  is = ap (λ rest. n ∷ rest) (are_now_same row now was were.1 are.1);
}
one_changed (h ∷ row) (suc i) history [] now inside are were = absurd are
one_changed (h ∷ row) (suc i) history (w ∷ was) [] inside are were = absurd were
one_changed (h ∷ row) (suc i) history (w ∷ was) (n ∷ now) inside are were =
    let later = one_changed row i history was now (omega arith) are.1 were.1 in
    record {
      old = later.old;
      new = later.new;
      was_now = later.was_now;
      is_now = later.is_now;
      old_is = later.old_is;
      is = ap (λ s. s ∷ now) (now_same were.0 are.0) ∙ ap (λ rest. w ∷ rest) later.is;
    }

-- ---- a row before and after a call

-- what a call makes of the states of a row, where all its devices tell
abbrev pub RowsTell : {S : Type 0} → List (List S) → List (List S) → (List S → List S → Type 0) → Type 0
RowsTell old new R = RowTells old (λ was. RowTells new (R was))

-- Two rows, and what their parts have in pairs.
pub record EachPair {S : Type 0} (R : ℕ → List S → List S → Type 0) (count : ℕ) (was now : List (List S)) : Type 0 where
  pub was_long : length was ≡ count
  pub now_long : length now ≡ count
  pub has : (i : ℕ) → i < count → R i (slice_index_or was i []) (slice_index_or now i [])

-- what each device's states tell by themselves, the rows tell of each
pub rows_each : {S : Type 0} (old new : List (List (List S))) (R : ℕ → List S → List S → Type 0) (count : ℕ) → length old ≡ count → length new ≡ count → ((i : ℕ) → i < count → BothTell (slice_index_or old i []) (slice_index_or new i []) (R i)) → RowsTell old new (EachPair R count)
rows_each old new R count long_old long_new each =
    row_tells_from old (λ was. RowTells new (EachPair R count was)) (λ was are.
    row_tells_from new (EachPair R count was) (λ now were. record {
      was_long = presents_long old was are ∙ long_old;
      now_long = presents_long new now were ∙ long_new;
      has = λ i below.
          both_at (slice_index_or old i []) (slice_index_or new i []) (R i) (slice_index_or was i []) (slice_index_or now i [])
          (present_at old was i [] (omega arith) are) (present_at new now i [] (omega arith) were) (each i below);
    }))

pub rows_more : {S : Type 0} (old new : List (List S)) (P : List S → Type 0) (R Q : List S → List S → Type 0) → ((was now : List S) → P was → R was now → Q was now) → RowTells old P → RowsTell old new R → RowsTell old new Q
rows_more old new P R Q step told rows =
    row_tells_more old (λ was. P was × RowTells new (R was)) (λ was. RowTells new (Q was))
    (λ was both. row_tells_more new (R was) (Q was) (λ now here. step was now both.0 here) both.1)
    (row_tells_both old P (λ was. RowTells new (R was)) told rows)

-- what two rows say of the later one alone
pub rows_new : {S : Type 0} (old new : List (List S)) (Q : List S → Type 0) → (AllTell new → AllTell old) → RowsTell old new (λ was now. Q now) → RowTells new Q
rows_new old new Q back rows =
    row_tells_from new Q (λ now are.
    let before = presents old (back (presents_tell new now are)) in
    row_tells_at new Q now are (row_tells_at old (λ was. RowTells new Q) before.states before.are rows))

-- a row of which one device is changed, which tells as before
told_set : {S : Type 0} (row : List (List S)) (i : ℕ) (history : List S) → (0 < length (slice_index_or row i []) → 0 < length history) → AllTell row → AllTell (slice_set row i history)
told_set {S = S} row i history tells all = λ j d below.
    elim (cases_eq j i) [
      | inl same ↦
          let inside : i < length row = omega (arith, length-set row i history) in
          let At : List S → Type 0 = λ these. 0 < length these in
          subst At (sym (ap (λ k. slice_index_or (slice_set row i history) k d) same ∙ get_or-set_same row i history d inside)) (tells (all i [] inside))
      | inr differs ↦
          let At : List S → Type 0 = λ these. 0 < length these in
          subst At (sym (get_or-set_other row i j history d differs)) (all j d (omega (arith, length-set row i history)))
    ]

told_unset : {S : Type 0} (row : List (List S)) (i : ℕ) (history : List S) → (0 < length history → 0 < length (slice_index_or row i [])) → AllTell (slice_set row i history) → AllTell row
told_unset {S = S} row i history tells all = λ j d below.
    let At : List S → Type 0 = λ these. 0 < length these in
    elim (cases_eq j i) [
      | inl same ↦
          let inside : i < length row = omega arith in
          let here : 0 < length history = subst At (get_or-set_same row i history [] inside) (all i [] (omega (arith, length-set row i history))) in
          subst At (ap (λ k. slice_index_or row k []) (sym same) ∙ get_or_default row j [] d below) (tells here)
      | inr differs ↦
          subst At (get_or-set_other row i j history d differs) (all j d (omega (arith, length-set row i history)))
    ]

pub tells_set : {S : Type 0} (row : List (List S)) (i : ℕ) (history : List S) → (0 < length (slice_index_or row i [])) ↔ (0 < length history) → AllTell row ↔ AllTell (slice_set row i history)
tells_set row i history same = (told_set row i history same.0, told_unset row i history same.1)

-- ---- results

-- what holds at `Ok` by two facts that do
pub on_both : {T E P Q R : Type 0} (result : Result T E) → (P → Q → R) → OnOk result P → OnOk result Q → OnOk result R
on_both (Ok value) step a b = step a b
on_both (Err e) step a b = tt

-- what holds of any error holds at an error
pub if_err_any : {T E : Type 0} {P : E → Type 0} (result : Result T E) → ((error : E) → P error) → IfErr result P
if_err_any (Ok value) each = tt
if_err_any (Err error) each = each error
