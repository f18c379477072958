-- The writes that an image adds may be made in any order: each is apart from all others.
use Rattle.std.proofs.Common.{◌≡◌, ◌≢◌, ◌⊎◌, ℕ, zero, suc, ◌+◌, ◌-◌, ◌<◌, ◌≤◌, ◌==◌, ◌&&◌, ◌||◌, nat_le, not, Bool, true, false, List, [], ◌∷◌, ◌++◌, inl, inr, refl, sym, ap, subst, ◌∙◌, arith}
use Rattle.std.proofs.lemmas.Bool.{cases_lt, and_parts, leb-true}
use Rattle.nv_plain.specs.Files.{Files}
use Rattle.nv_plain.specs.Images.{Image, entry_of}
use Rattle.nv_plain.specs.Calls.{files_after}
use Rattle.nv_plain.specs.declared.call.FileCall.{FileCall}
use Rattle.nv_plain.specs.Made.{after_calls, made_calls}
use Rattle.nv_pmem.specs.Laws.{LoadsAreAnImage}
use Rattle.nv_entry.specs.Commits.{GroupsAreAtomic, GroupsBecomeWhole, GroupsEndQuiet, GroupsStoreNothingElse}
use Rattle.nv_core.specs.state.Words.{Sizes, HEAD, TAIL, slot_of_entry}
use Rattle.nv_core.specs.state.Passes.{Control, TakePlace, Pass, is_write}
use Rattle.nv_core.specs.invariant.ControlFacts.{HasDrawn}
use Rattle.nv_core.specs.steps.Order.{Values}
use Rattle.nv_core.specs.state.Core.{Core}
use Rattle.nv_core.specs.invariant.LogWindow.{InWindow, WasReadied}
use Rattle.nv_core.specs.log.Groups.{Log}
use Rattle.nv_core.specs.log.Tails.{Tails}
use Rattle.nv_core.specs.log.EntryImages.{IsRegionImage, EntryImages}
use Rattle.nv_core.specs.log.StaleWords.{StaleWords}
use Rattle.nv_core.specs.log.InFlight.{IsFlying}
use Rattle.nv_core.specs.log.Unready.{IsUnready}
use Rattle.nv_core.specs.invariant.ForbiddenSteps.{IsInFlight}
use Rattle.nv_core.specs.crash.CommutingWrites.{Commute, IsReordered}
use Rattle.nv_core.specs.log.LivePieces.{rising, call_if, is_ready, is_waiting, to_place}
use Rattle.nv_core.specs.log.LogContent.{LogContent}
use Rattle.nv_core.specs.crash.CrashImages.{is_in_flight, is_committed, is_added, added_unready, added_writes, HasRegion, AddedInAnyOrder}
use Rattle.nv_core.specs.invariant.Sound.{Sound}
use Rattle.nv_core.specs.content.PlainLaws.{PlainLaws}
use Rattle.nv_core.proofs.state.Choices.{not_both}
use Rattle.nv_core.proofs.crash.CommutingLaws.{IsApartFrom, comes_first, after_both}
use Rattle.nv_core.proofs.log.LiveLaws.{AllApart, apart_both, apart_turned}
use Rattle.nv_core.proofs.log.KeepsLive.{if_apart}
use Rattle.nv_core.proofs.log.KeepsUnready.{not_readied}
use Rattle.nv_core.proofs.log.ImageLaws.{entry_images, stale_words}
use Rattle.nv_core.proofs.crash.CrashGroups.{some_entries, some_page}
use Rattle.nv_core.proofs.crash.CrashOrder.{all_rising, all_if, group_apart, unready_apart}
use Rattle.nv_core.proofs.crash.CrashHeader.{which_tail}
use Rattle.nv_core.proofs.crash.CrashLaws.{unready_if}
use Rattle.nv_core.proofs.invariant.ForbiddenStepLaws.{writes_in_flight_are_apart}

-- ---- lists of calls of which each is apart from all others

abbrev AreEachApart : List FileCall → Type 0
AreEachApart [] = Unit {0}
AreEachApart (call ∷ rest) = IsApartFrom call rest × AreEachApart rest

-- what is apart from a list is so from its parts
apart_parts : (call : FileCall) (one other : List FileCall) → IsApartFrom call (one ++ other) → IsApartFrom call one × IsApartFrom call other
apart_parts call [] other is = (tt, is)
apart_parts call (first ∷ one) other is = let rest = apart_parts call one other is.1 in ((is.0, rest.0), rest.1)

-- and from the same calls in another order
apart_reordered : (call : FileCall) (calls others : List FileCall) → IsApartFrom call calls → IsReordered calls others → IsApartFrom call others
apart_reordered call [] others is same = subst (IsApartFrom call) (sym same) tt
apart_reordered call (one ∷ rest) others is same =
    let parts = apart_parts call same.0 same.1 (apart_reordered call rest (same.0 ++ same.1) is.1 same.3) in
    subst (IsApartFrom call) (sym same.2) (apart_both call same.0 (one ∷ same.1) parts.0 (is.0, parts.1))

-- such calls leave the same files in any order
in_any_order : (plain : PlainLaws) (calls others : List FileCall) (files : Files) → AreEachApart calls → IsReordered calls others → after_calls others files ≡ after_calls calls files
in_any_order plain [] others files apart same = ap (λ c. after_calls c files) same
in_any_order plain (call ∷ rest) others files apart same =
    ap (λ c. after_calls c files) same.2
    ∙ comes_first plain same.0 call same.1 files (apart_parts call same.0 same.1 (apart_reordered call rest (same.0 ++ same.1) apart.0 same.3)).0
    ∙ in_any_order plain rest (same.0 ++ same.1) (files_after call files) apart.1 same.3

-- two lists of which each call is apart from each of the other
each_apart_both : (one other : List FileCall) → AreEachApart one → AreEachApart other → AllApart one other → AreEachApart (one ++ other)
each_apart_both [] other a b all = b
each_apart_both (call ∷ one) other a b all = (apart_both call one other a.0 all.0, each_apart_both one other a.1 b all.1)

-- ---- lists by numbers, of which each is apart from those above it

rising_all : (calls : ℕ → List FileCall) (others : List FileCall) (from count : ℕ) → ((n : ℕ) → from ≤ n → n < from + count → AllApart (calls n) others) → AllApart (rising calls from count) others
rising_all calls others from zero apart = tt
rising_all calls others from (suc count) apart = both (calls from) (rising calls (suc from) count) (apart from (omega arith) (omega arith)) (rising_all calls others (suc from) count (λ n low high. apart n (omega (arith, low)) (omega (arith, high))))
  where
    both : (one other : List FileCall) → AllApart one others → AllApart other others → AllApart (one ++ other) others
    both [] other a b = b
    both (call ∷ one) other a b = (a.0, both one other a.1 b)

rising_each : (calls : ℕ → List FileCall) (from count : ℕ) → ((n : ℕ) → AreEachApart (calls n)) → ((n m : ℕ) → from ≤ n → n < m → m < from + count → AllApart (calls n) (calls m)) → AreEachApart (rising calls from count)
rising_each calls from zero own apart = tt
rising_each calls from (suc count) own apart = each_apart_both (calls from) (rising calls (suc from) count) (own from)
    (rising_each calls (suc from) count own (λ n m low less high. apart n m (omega (arith, low)) less (omega (arith, high))))
    (all_rising (calls from) calls (suc from) count (λ m low high. apart from m (omega arith) (omega (arith, low)) (omega (arith, high))))

rising_both : (one other : ℕ → List FileCall) (from count start many : ℕ) → ((n m : ℕ) → from ≤ n → n < from + count → start ≤ m → m < start + many → AllApart (one n) (other m)) → AllApart (rising one from count) (rising other start many)
rising_both one other from count start many apart = rising_all one (rising other start many) from count (λ n low high. all_rising (one n) other start many (λ m more less. apart n m low high more less))

each_if : (test : Bool) (call : FileCall) → AreEachApart (call_if test call)
each_if true call = (tt, tt)
each_if false call = tt

-- ---- the added writes

waiting_is : (pass : Pass) (control : Control) → is_waiting pass control ≡ true → (control ≡ TakePlace) × (is_write pass.call ≡ true)
waiting_is pass TakePlace is = (refl, is)
waiting_is pass control is = absurd (not_both is refl)

module _ (plain : PlainLaws) (sizes : Sizes) (first : Values) (opened : Files) (names : List (List ℕ)) (tails : Tails) (log : Log) (placed : ℕ → Bool) (core : Core)
    (sound : Sound sizes first core) (content : LogContent sizes first opened tails log placed core) (region : HasRegion sizes names tails log core)
    (images : EntryImages sizes tails.least log core) (stale : StaleWords sizes tails.least log core) (image : Image) (is : IsRegionImage sizes core.values image)
    (which : (image 0 1 0 ≡ tails.least) ⊎ (image 0 1 0 ≡ tails.next)) where
  some_page_ : 1 ≤ sizes.page
  some_page_ = some_page sizes names (image 0 1 0) image (region.header image is)

  -- a number that the image adds, and that wasn't made ready
  abbrev adds : ℕ → Bool
  adds n = is_added sizes log placed core image n && not (is_ready sizes core n)

  added_is : (n : ℕ) → InWindow core n → adds n ≡ true → IsUnready sizes log core n
  added_is n within test =
      let both = and_parts (is_added sizes log placed core image n) (not (is_ready sizes core n)) test in
      let added_writes = and_parts (is_in_flight log placed n) (is_ready sizes core n || is_committed sizes image n) both.0 in
      let unready = negated (is_ready sizes core n) both.1 in
      let committed = among (is_ready sizes core n) (is_committed sizes image n) added_writes.1 unready in
      unready_if plain sizes first opened names tails log placed core sound content region images stale image is which n within
      (leb-true (image 0 1 0) n (and_parts (nat_le (image 0 1 0) n) ((entry_of (image (1 + slot_of_entry sizes n))).commit == n + 1) committed).0)
      (and_parts ((log.group n).first == n) (not (placed n)) added_writes.0).0 unready
    where
      negated : (b : Bool) → not b ≡ true → b ≡ false
      negated true e = sym e
      negated false e = refl

      among : (a b : Bool) → (a || b) ≡ true → a ≡ false → b ≡ true
      among true b e none = absurd (not_both refl none)
      among false b e none = e

  two_unready : (n m : ℕ) → InWindow core n → InWindow core m → n < m → adds n ≡ true → adds m ≡ true → Commute (log.group n).call (log.group m).call
  two_unready n m within above less a b = unready_apart sizes log core content.groups placed content.unready some_page_ n m (added_is n within a) above (added_is m above b).leads less

  -- a write that is placed next, and one whose leader was never made ready
  beside : (by n : ℕ) → is_waiting (core.passes by) (core.passes by).control ≡ true → InWindow core n → adds n ≡ true → Commute (core.passes by).call (log.group n).call
  beside by n waits within test = elim (cases_lt n (core.passes by).first) [
    | inl below ↦
        let own = content.flight.own by flying (core.passes by).first (omega arith, let s = drawn.some in omega (arith, s)) in
        let above : InWindow core (core.passes by).first = (let l = within.0 in omega (arith, l, below), own.below) in
        apart_turned (log.group n).call (core.passes by).call (subst (λ g. Commute (log.group n).call g.call) own.group
        (unready_apart sizes log core content.groups placed content.unready some_page_ n (core.passes by).first unready above (ap (λ g. g.first) own.group) below))
    | inr low ↦ elim (cases_lt n ((core.passes by).first + (core.passes by).entries)) [
      | inl inside ↦ absurd (
          let own = content.flight.own by flying n (low, inside) in
          let e : (core.passes by).first ≡ n = sym (ap (λ g. g.first) own.group) ∙ unready.leads in
          not_readied sizes log core n unready (subst (WasReadied sizes core) e (content.flight.ready_first by flying stands.0 (subst (InWindow core) (sym e) within))))
      | inr behind ↦ group_apart sizes log core content.groups some_page_ (core.passes by).call stands.1 n within unready.leads
          (λ k more there on. content.flight.apart by flying k there (omega (arith, behind, more)) on)
    ]
  ]
    where
      stands : ((core.passes by).control ≡ TakePlace) × (is_write (core.passes by).call ≡ true)
      stands = waiting_is (core.passes by) (core.passes by).control waits

      flying : IsFlying (core.passes by) (core.passes by).control
      flying = subst (IsFlying (core.passes by)) (sym stands.0) stands.1

      drawn : HasDrawn sizes (core.passes by).call (core.passes by).entries
      drawn = content.flight.drawn by flying

      unready : IsUnready sizes log core n
      unready = added_is n within test

  two_waiting : (by other : ℕ) → by ≢ other → is_waiting (core.passes by) (core.passes by).control ≡ true → is_waiting (core.passes other) (core.passes other).control ≡ true → Commute (core.passes by).call (core.passes other).call
  two_waiting by other ne a b =
      let one = waiting_is (core.passes by) (core.passes by).control a in
      let two = waiting_is (core.passes other) (core.passes other).control b in
      writes_in_flight_are_apart sizes first core by other some_page_ sound ne (subst IsInFlight (sym one.0) tt) (subst IsInFlight (sym two.0) tt) one.1 two.1

  abbrev waiting : ℕ → List FileCall
  waiting by = call_if (is_waiting (core.passes by) (core.passes by).control) (core.passes by).call

  abbrev others : ℕ → List FileCall
  others n = call_if (adds n) (log.group n).call

  inside : (n : ℕ) → core.words TAIL ≤ n → n < core.words TAIL + (core.words HEAD - core.words TAIL) → InWindow core n
  inside n low high = let o = sound.window.order in (low, omega (arith, high, o))

  both_if : (one other : Bool) (call more : FileCall) → (one ≡ true → other ≡ true → Commute call more) → AllApart (call_if one call) (call_if other more)
  both_if one other call more apart = all_if one call (call_if other more) (λ a. if_apart call other more (λ b. apart a b))

  each_apart : AreEachApart (added_writes sizes log placed core image)
  each_apart = each_apart_both (to_place core) (added_unready sizes log placed core image)
      (rising_each waiting 0 (core.made + 1) (λ by. each_if (is_waiting (core.passes by) (core.passes by).control) (core.passes by).call)
      (λ by other low less high. both_if (is_waiting (core.passes by) (core.passes by).control) (is_waiting (core.passes other) (core.passes other).control) (core.passes by).call (core.passes other).call (two_waiting by other (λ e. omega (arith, e, less)))))
      (rising_each others (core.words TAIL) (core.words HEAD - core.words TAIL) (λ n. each_if (adds n) (log.group n).call)
      (λ n m low less high. both_if (adds n) (adds m) (log.group n).call (log.group m).call (two_unready n m (inside n low (omega (arith, less, high))) (inside m (omega (arith, low, less)) high) less)))
      (rising_both waiting others 0 (core.made + 1) (core.words TAIL) (core.words HEAD - core.words TAIL)
      (λ by n low high more less. both_if (is_waiting (core.passes by) (core.passes by).control) (adds n) (core.passes by).call (log.group n).call (λ a b. beside by n a (inside n more less) b)))

pub added_in_any_order : LoadsAreAnImage → GroupsAreAtomic → GroupsBecomeWhole → GroupsEndQuiet → GroupsStoreNothingElse → PlainLaws → AddedInAnyOrder
added_in_any_order loads atomic becomes ends only plain sizes first opened names tails log placed core image others sound content region is same =
    let some = some_entries sizes names (image 0 1 0) image (region.header image is) in
    let added_ = added_writes sizes log placed core image in
    after_both (made_calls opened core.history) others opened
    ∙ in_any_order plain added_ others (after_calls (made_calls opened core.history) opened)
    (each_apart plain sizes first opened names tails log placed core sound content region
    (entry_images loads atomic becomes ends sizes first tails log core some sound content.groups content.written content.retired)
    (stale_words loads only sizes first tails.least log core some sound content.groups content.written)
    image is (which_tail sizes first names tails log core content.header region image is)) same
    ∙ sym (after_both (made_calls opened core.history) added_ opened)
