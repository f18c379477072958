-- A cleaner's progress: what of it stays where the words and the log stay, or change in one entry, and how it goes on.
use Rattle.std.proofs.Common.{◌≡◌, ◌≢◌, ◌⊎◌, ℕ, zero, suc, ◌+◌, ◌-◌, ◌<◌, ◌≤◌, ◌==◌, nat_lt, true, List, [], ◌∷◌, length, take, inl, inr, refl, sym, ap, subst, ◌∙◌, arith}
use Rattle.std.specs.Prelude.{slice_index}
use Rattle.std.proofs.lemmas.Bool.{cases_eq, cases_lt, eqb-true, eqb-false}
use Rattle.nv_core.specs.state.Words.{Sizes, Word, STOP, HEAD, TAIL, ENTRY, index, kind_of, page_of, was_readied, cleaned, slot_of_entry}
use Rattle.nv_core.specs.state.Cleaner.{Batch, CleanerControl, LoadTail, WriteBack, CleanEntry, SubtractDirty, RefusedReturnEntry, FailedReturnEntry, RefusedGiveCleanup, SyncStores, MoveHeaderTail, SetStop}
use Rattle.nv_core.specs.state.Cleaner as cleaner
use Rattle.nv_core.specs.steps.CleanerSteps.{withdrawing, syncing, finishing, surveying, retreating, each_next, closed, rising_files, group_page, group_file, holds_store, new_batch}
use Rattle.nv_core.specs.invariant.Ownership.{one_if}
use Rattle.nv_core.specs.invariant.CleanerOwnership.{count_in, of_cleaner_cleanup}
use Rattle.nv_core.specs.invariant.CleanerNumbers.{IsCleaned}
use Rattle.nv_core.specs.state.Passes.{Control, Cleaning}
use Rattle.nv_core.specs.state.Core.{Core, with_value}
use Rattle.nv_core.specs.invariant.LogWindow.{InWindow, entry_word_at, LogWindow}
use Rattle.nv_core.specs.content.PagesAfter.{file_of_page}
use Rattle.nv_core.specs.log.Groups.{Log}
use Rattle.nv_core.specs.log.Pieces.{page_of_number}
use Rattle.nv_core.specs.log.Progress.{HasLoadedTail, IsBeforeTail, HasFoundNoStop, HasSetStop, HasNoGroup, HasStore, HasWholeGroup, KindAt, IsLooked, IsBatchBounded, Within, First, Alone, IsBatchUnderWay, Progress}
use Rattle.nv_core.proofs.state.Changes.{word_here, word_else, differ, number_self}
use Rattle.nv_core.proofs.state.Choices.{if_both, when_true}
use Rattle.nv_core.proofs.invariant.WindowLaws.{apart_within}

-- ---- the parts, by where a pass stands

pub record AtBatch (sizes : Sizes) (log : Log) (core : Core) (batch : Batch) (inner : CleanerControl) : Type 0 where
  pub way : HasLoadedTail inner → IsBatchUnderWay sizes log core batch inner
  pub head : batch.head ≤ core.words HEAD
  pub fresh : IsBeforeTail inner → batch ≡ new_batch batch.most
  pub own : HasFoundNoStop inner → (n : ℕ) → InWindow core n → kind_of (entry_word_at sizes core n) ≡ cleaned → IsCleaned (Cleaning batch inner) n
  pub set_stop : HasSetStop inner → core.words STOP ≡ 1

abbrev pub At : Sizes → Log → Core → Control → Type 0
At sizes log core (Cleaning batch inner) = AtBatch sizes log core batch inner
At sizes log core control = Unit {0}

pub all_at : {sizes : Sizes} {log : Log} {core : Core} → Progress sizes log core → (by : ℕ) → At sizes log core (core.passes by).control
all_at {sizes = sizes} {log = log} {core = core} progress by = go (core.passes by).control refl
  where
    go : (control : Control) → (core.passes by).control ≡ control → At sizes log core control
    go (Cleaning batch inner) e = record {
      way = progress.each by batch inner e;
      head = progress.head by batch inner e;
      fresh = progress.fresh by batch inner e;
      own = progress.own by batch inner e;
      set_stop = progress.set_stop by batch inner e;
    }
    go control e = tt

pub from_all : (sizes : Sizes) (log : Log) (core : Core) → ((by : ℕ) → At sizes log core (core.passes by).control) → Progress sizes log core
from_all sizes log core all = record {
  each = λ by batch inner e. (there by batch inner e).way;
  head = λ by batch inner e. (there by batch inner e).head;
  fresh = λ by batch inner e. (there by batch inner e).fresh;
  own = λ by batch inner e. (there by batch inner e).own;
  set_stop = λ by batch inner e. (there by batch inner e).set_stop;
}
  where
    there : (by : ℕ) (batch : Batch) (inner : CleanerControl) → (core.passes by).control ≡ Cleaning batch inner → AtBatch sizes log core batch inner
    there by batch inner e = subst (At sizes log core) e (all by)

pub stop_loaded : (inner : CleanerControl) → HasLoadedTail inner → HasFoundNoStop inner
stop_loaded LoadTail tail_loaded = tt
stop_loaded inner tail_loaded = tail_loaded

-- a batch with the same groups behind it and the same one at hand, or none, keeps to its bound
pub same_bound : (log : Log) (one other : Batch) → other.tail ≡ one.tail → other.most ≡ one.most → other.reached ≡ one.reached → (other.count ≡ one.count) ⊎ (other.count ≡ 0) → IsBatchBounded log one → IsBatchBounded log other
same_bound log one other tail most reached count (Within few) = Within (elim count [ inl c ↦ omega (arith, few, tail, most, reached, c) | inr c ↦ omega (arith, few, tail, most, reached, c) ])
same_bound log one other tail most reached count (First none) = First (reached ∙ none ∙ sym tail)
same_bound log one other tail most reached count (Alone none is) = Alone (elim count [ inl c ↦ c ∙ none | inr c ↦ c ])
    (reached ∙ is ∙ sym (ap (λ t. t + (log.group t).entries) tail))

-- ---- the words of the log go on

module _ (sizes : Sizes) (log next : Log) (core now : Core) (tail : now.words TAIL ≡ core.words TAIL) (head : core.words HEAD ≤ now.words HEAD) (stop : core.words STOP ≡ 1 → now.words STOP ≡ 1)
    (group : (n : ℕ) → n < core.words HEAD → next.group n ≡ log.group n) (leads : core.words HEAD < now.words HEAD → (next.group (core.words HEAD)).first ≡ core.words HEAD) where
  window_on : (n : ℕ) → InWindow core n → InWindow now n
  window_on n is = (subst (λ t. t ≤ n) (sym tail) is.0, let a = is.1 in omega (arith, a, head))

  -- an entry that was loaded, at another kind, where the cleaner stands elsewhere
  pub looked_on : (batch : Batch) (s t : CleanerControl) (i : ℕ) → was_readied (entry_word_at sizes now (batch.reached + i)) ≡ true → page_of (entry_word_at sizes now (batch.reached + i)) ≡ page_of (entry_word_at sizes core (batch.reached + i))
      → KindAt t i (kind_of (entry_word_at sizes now (batch.reached + i))) → IsLooked sizes core batch s i → IsLooked sizes now batch t i
  looked_on batch s t i was page kind looked = record { within = window_on (batch.reached + i) looked.within; readied = was; page = page ∙ looked.page; kind = kind }

  bound_on : (batch : Batch) → batch.tail ≤ batch.reached → batch.reached ≤ core.words HEAD → IsBatchBounded log batch → IsBatchBounded next batch
  bound_on batch low high (Within few) = Within few
  bound_on batch low high (First is) = First is
  bound_on batch low high (Alone none is) = elim (cases_lt batch.tail (core.words HEAD)) [
    | inl less ↦ Alone none (is ∙ ap (λ g. batch.tail + g.entries) (sym (group batch.tail less)))
    | inr more ↦ First (omega (arith, low, high, more))
  ]

  pub way_on : (batch : Batch) (s t : CleanerControl) → ((i : ℕ) → i < length batch.pages → IsLooked sizes core batch s i → IsLooked sizes now batch t i)
      → (HasWholeGroup t → length batch.pages ≡ batch.count) → (HasNoGroup t → length batch.pages ≡ 0) → (HasStore t → holds_store batch (group_file sizes batch) ≡ true)
      → IsBatchUnderWay sizes log core batch s → IsBatchUnderWay sizes next now batch t
  way_on batch s t entry whole none stored way = record {
    bound = bound_on batch way.low way.high way.bound;
    tail = way.tail ∙ sym tail;
    low = way.low;
    high = let h = way.high in omega (arith, h, head);
    leads = λ within. elim (cases_lt batch.reached (core.words HEAD)) [
      | inl less ↦ ap (λ g. g.first) (group batch.reached less) ∙ way.leads (subst (λ t. t ≤ batch.reached) tail within.0, less)
      | inr more ↦
          let h = way.high in let e : batch.reached ≡ core.words HEAD = omega (arith, more, h) in let w = within.1 in
          subst (λ n. (next.group n).first ≡ n) (sym e) (leads (omega (arith, e, w)))
    ];
    looked = λ i less. entry i less (way.looked i less);
    count = λ some. way.count some ∙ ap (λ g. g.entries) (sym (group batch.reached (let l = (way.looked 0 some).within.1 in omega (arith, l))));
    whole = whole;
    none = none;
    stored = stored;
    files = way.files;
    stores = λ n low high. subst (λ g. holds_store batch (file_of_page sizes (page_of_number sizes g n)) ≡ true) (sym (group n (let h = way.high in omega (arith, high, h)))) (way.stores n low high);
  }

  -- where it stands as it stood
  pub batch_on : (batch : Batch) (inner : CleanerControl) → (HasLoadedTail inner → (i : ℕ) → i < length batch.pages → IsLooked sizes core batch inner i → IsLooked sizes now batch inner i)
      → ((n : ℕ) → InWindow now n → kind_of (entry_word_at sizes now n) ≡ cleaned → InWindow core n × (kind_of (entry_word_at sizes core n) ≡ cleaned))
      → AtBatch sizes log core batch inner → AtBatch sizes next now batch inner
  batch_on batch inner entry clean at = record {
    way = λ tail_loaded. let way = at.way tail_loaded in way_on batch inner inner (entry tail_loaded) way.whole way.none way.stored way;
    head = let h = at.head in omega (arith, h, head);
    fresh = at.fresh;
    own = λ stop_loaded n within kind. let was = clean n within kind in at.own stop_loaded n was.0 was.1;
    set_stop = λ set_stop. stop (at.set_stop set_stop);
  }

-- no word of the log changes
pub same_at : (sizes : Sizes) (log next : Log) (core now : Core) → now.words TAIL ≡ core.words TAIL → now.words HEAD ≡ core.words HEAD → (core.words STOP ≡ 1 → now.words STOP ≡ 1)
    → ((slot : ℕ) → now.words (ENTRY slot) ≡ core.words (ENTRY slot)) → next.group ≡ log.group → (control : Control) → At sizes log core control → At sizes next now control
same_at sizes log next core now tail head stop entry group (Cleaning batch inner) at =
    batch_on sizes log next core now tail (omega (arith, head)) stop (λ n less. ap (λ g. g n) group) (λ less. absurd (omega (arith, less, head))) batch inner
    (λ _ i less looked. let e : entry_word_at sizes now (batch.reached + i) ≡ entry_word_at sizes core (batch.reached + i) = entry (slot_of_entry sizes (batch.reached + i)) in
    looked_on sizes log next core now tail (omega (arith, head)) stop (λ n less. ap (λ g. g n) group) (λ less. absurd (omega (arith, less, head))) batch inner inner i
    (ap was_readied e ∙ looked.readied) (ap page_of e) (subst (λ w. KindAt inner i (kind_of w)) (sym e) looked.kind) looked)
    (λ n within kind. ((subst (λ t. t ≤ n) tail within.0, subst (λ h. n < h) head within.1), ap kind_of (sym (entry (slot_of_entry sizes n))) ∙ kind)) at
same_at sizes log next core now tail head stop entry group control at = tt

-- ---- one entry changes

module _ (sizes : Sizes) (log next : Log) (core now : Core) (m value : ℕ) (words : now.words ≡ with_value core.words (ENTRY (slot_of_entry sizes m)) value) (window : LogWindow sizes core) (within : InWindow core m) (group : next.group ≡ log.group) where
  pub entry_tail : now.words TAIL ≡ core.words TAIL
  entry_tail = ap (λ w. w TAIL) words ∙ word_else core.words (ENTRY (slot_of_entry sizes m)) value TAIL (differ TAIL (ENTRY (slot_of_entry sizes m)) refl)

  pub entry_head : now.words HEAD ≡ core.words HEAD
  entry_head = ap (λ w. w HEAD) words ∙ word_else core.words (ENTRY (slot_of_entry sizes m)) value HEAD (differ HEAD (ENTRY (slot_of_entry sizes m)) refl)

  entry_stop : now.words STOP ≡ core.words STOP
  entry_stop = ap (λ w. w STOP) words ∙ word_else core.words (ENTRY (slot_of_entry sizes m)) value STOP (differ STOP (ENTRY (slot_of_entry sizes m)) refl)

  pub entry_here : entry_word_at sizes now m ≡ value
  entry_here = ap (λ w. w (ENTRY (slot_of_entry sizes m))) words ∙ word_here core.words (ENTRY (slot_of_entry sizes m)) value

  pub entry_there : (n : ℕ) → InWindow core n → n ≢ m → entry_word_at sizes now n ≡ entry_word_at sizes core n
  entry_there n is ne = ap (λ w. w (ENTRY (slot_of_entry sizes n))) words ∙ word_else core.words (ENTRY (slot_of_entry sizes m)) value (ENTRY (slot_of_entry sizes n)) (λ e. apart_within sizes core window n m is within ne (ap index e))

  pub entry_was : (n : ℕ) → InWindow now n → InWindow core n
  entry_was n is = (subst (λ t. t ≤ n) entry_tail is.0, subst (λ h. n < h) entry_head is.1)

  -- what is cleaned then, is this entry or was so
  pub entry_cleaned : (n : ℕ) → InWindow now n → kind_of (entry_word_at sizes now n) ≡ cleaned → ((n ≡ m) × (kind_of value ≡ cleaned)) ⊎ ((n ≢ m) × InWindow core n × (kind_of (entry_word_at sizes core n) ≡ cleaned))
  entry_cleaned n is kind = elim (cases_eq n m) [
    | inl e ↦ inl (e, ap kind_of (sym entry_here) ∙ ap (λ k. kind_of (entry_word_at sizes now k)) (sym e) ∙ kind)
    | inr ne ↦ inr (ne, entry_was n is, ap kind_of (sym (entry_there n (entry_was n is) ne)) ∙ kind)
  ]

  -- the entries of a group that were loaded, where the cleaner stands elsewhere then
  pub entry_looked : (batch : Batch) (s t : CleanerControl) (i : ℕ)
      → (batch.reached + i ≡ m → (was_readied value ≡ true) × (page_of value ≡ page_of (entry_word_at sizes core m)) × KindAt t i (kind_of value))
      → (batch.reached + i ≢ m → KindAt s i (kind_of (entry_word_at sizes core (batch.reached + i))) → KindAt t i (kind_of (entry_word_at sizes core (batch.reached + i))))
      → IsLooked sizes core batch s i → IsLooked sizes now batch t i
  entry_looked batch s t i here there looked = elim (cases_eq (batch.reached + i) m) [
    | inl e ↦
        let h = here e in let v : entry_word_at sizes now (batch.reached + i) ≡ value = ap (entry_word_at sizes now) e ∙ entry_here in
        looked_on sizes log next core now entry_tail (omega (arith, entry_head)) (λ one. entry_stop ∙ one) (λ n less. ap (λ g. g n) group) (λ less. absurd (omega (arith, less, entry_head))) batch s t i
        (ap was_readied v ∙ h.0) (ap page_of v ∙ h.1 ∙ ap (λ k. page_of (entry_word_at sizes core k)) (sym e)) (subst (λ w. KindAt t i (kind_of w)) (sym v) h.2) looked
    | inr ne ↦
        let v : entry_word_at sizes now (batch.reached + i) ≡ entry_word_at sizes core (batch.reached + i) = entry_there (batch.reached + i) looked.within ne in
        looked_on sizes log next core now entry_tail (omega (arith, entry_head)) (λ one. entry_stop ∙ one) (λ n less. ap (λ g. g n) group) (λ less. absurd (omega (arith, less, entry_head))) batch s t i
        (ap was_readied v ∙ looked.readied) (ap page_of v) (subst (λ w. KindAt t i (kind_of w)) (sym v) (there ne looked.kind)) looked
  ]

  pub entry_way : (batch : Batch) (s t : CleanerControl) → ((i : ℕ) → i < length batch.pages → IsLooked sizes core batch s i → IsLooked sizes now batch t i)
      → (HasWholeGroup t → length batch.pages ≡ batch.count) → (HasNoGroup t → length batch.pages ≡ 0) → (HasStore t → holds_store batch (group_file sizes batch) ≡ true)
      → IsBatchUnderWay sizes log core batch s → IsBatchUnderWay sizes next now batch t
  entry_way = way_on sizes log next core now entry_tail (omega (arith, entry_head)) (λ one. entry_stop ∙ one) (λ n less. ap (λ g. g n) group) (λ less. absurd (omega (arith, less, entry_head)))

  -- another pass's entry
  pub entry_at_other : kind_of value ≢ cleaned → (control : Control)
      → ((batch : Batch) (inner : CleanerControl) → control ≡ Cleaning batch inner → HasLoadedTail inner → (i : ℕ) → i < length batch.pages → IsLooked sizes core batch inner i → batch.reached + i ≡ m
      → (was_readied value ≡ true) × (page_of value ≡ page_of (entry_word_at sizes core m)) × KindAt inner i (kind_of value))
      → At sizes log core control → At sizes next now control
  entry_at_other dirty (Cleaning batch inner) here at =
      batch_on sizes log next core now entry_tail (omega (arith, entry_head)) (λ one. entry_stop ∙ one) (λ n less. ap (λ g. g n) group) (λ less. absurd (omega (arith, less, entry_head))) batch inner
      (λ tail_loaded i less looked. entry_looked batch inner inner i (here batch inner refl tail_loaded i less looked) (λ _ kind. kind) looked)
      (λ n is kind. elim (entry_cleaned n is kind) [ inl same ↦ absurd (dirty same.1) | inr other ↦ (other.1, other.2) ]) at
  entry_at_other dirty control here at = tt

-- ---- counts

pub count_some : (pages : List ℕ) (i : ℕ) → i < length pages → 1 ≤ count_in pages (slice_index pages i)
count_some [] i less = absurd (omega (arith, less))
count_some (first ∷ rest) zero less = let o : one_if (first == first) ≡ 1 = when_true (first == first) 1 0 (number_self first) in omega (arith, o)
count_some (first ∷ rest) (suc i) less = let again = count_some rest i (omega (arith, less)) in omega (arith, again)

pub count_some_take : (pages : List ℕ) (n i : ℕ) → i < n → i < length pages → 1 ≤ count_in (take n pages) (slice_index pages i)
count_some_take [] n i below less = absurd (omega (arith, less))
count_some_take (first ∷ rest) zero i below less = absurd (omega (arith, below))
count_some_take (first ∷ rest) (suc n) zero below less = let o : one_if (first == first) ≡ 1 = when_true (first == first) 1 0 (number_self first) in omega (arith, o)
count_some_take (first ∷ rest) (suc n) (suc i) below less = let again = count_some_take rest n i (omega (arith, below)) (omega (arith, less)) in omega (arith, again)

-- another pass holds CLEANUP of an entry's page: then nothing is known of its kind, but that it isn't cleaned
pub kind_kept : (batch : Batch) (inner : CleanerControl) (i old new : ℕ) → i < length batch.pages → old ≢ cleaned → of_cleaner_cleanup batch inner (group_page batch i) ≡ 0 → KindAt inner i old → KindAt inner i new
kind_kept batch (cleaner.TakeCleanup n) i old new less dirty none kind = λ below. absurd (let c = count_some_take batch.pages n i below less in omega (arith, none, c))
kind_kept batch cleaner.TakeStore i old new less dirty none kind = absurd (let c = count_some batch.pages i less in omega (arith, none, c))
kind_kept batch (cleaner.HoldEntry n) i old new less dirty none kind = absurd (let c = count_some batch.pages i less in omega (arith, none, c))
kind_kept batch (cleaner.ReadPiece n) i old new less dirty none kind = absurd (let c = count_some batch.pages i less in omega (arith, none, c))
kind_kept batch (WriteBack n) i old new less dirty none kind = absurd (let c = count_some batch.pages i less in omega (arith, none, c))
kind_kept batch (CleanEntry n) i old new less dirty none kind = absurd (let c = count_some batch.pages i less in omega (arith, none, c))
kind_kept batch (SubtractDirty n) i old new less dirty none kind = absurd (dirty kind)
kind_kept batch (cleaner.GiveCleanup n) i old new less dirty none kind = absurd (dirty kind)
kind_kept batch (RefusedReturnEntry n end) i old new less dirty none kind = absurd (let c = count_some batch.pages i less in omega (arith, none, c))
kind_kept batch (FailedReturnEntry n end) i old new less dirty none kind = absurd (let c = count_some batch.pages i less in omega (arith, none, c))
kind_kept batch (SetStop n) i old new less dirty none kind = absurd (let c = count_some batch.pages i less in omega (arith, none, c))
kind_kept batch inner i old new less dirty none kind = tt

-- ---- a cleaner goes on, and the words stay

module _ (sizes : Sizes) (log : Log) (core : Core) where
  pub turned : (batch : Batch) (s t : CleanerControl) → HasLoadedTail s → (IsBeforeTail t → ⊥) → (HasSetStop t → core.words STOP ≡ 1)
      → ((i : ℕ) → i < length batch.pages → KindAt s i (kind_of (entry_word_at sizes core (batch.reached + i))) → KindAt t i (kind_of (entry_word_at sizes core (batch.reached + i))))
      → (IsBatchUnderWay sizes log core batch s → HasWholeGroup t → length batch.pages ≡ batch.count) → (IsBatchUnderWay sizes log core batch s → HasNoGroup t → length batch.pages ≡ 0)
      → (IsBatchUnderWay sizes log core batch s → HasStore t → holds_store batch (group_file sizes batch) ≡ true)
      → ((n : ℕ) → IsCleaned (Cleaning batch s) n → IsCleaned (Cleaning batch t) n)
      → AtBatch sizes log core batch s → AtBatch sizes log core batch t
  turned batch s t tail_loaded old set_stop kinds whole none stored clean at =
      let way = at.way tail_loaded in
      record {
        way = λ _. record {
          tail = way.tail;
          low = way.low;
          high = way.high;
          leads = way.leads;
          looked = λ i less. let l = way.looked i less in record { within = l.within; readied = l.readied; page = l.page; kind = kinds i less l.kind };
          count = way.count;
          whole = whole way;
          none = none way;
          stored = stored way;
          files = way.files;
          stores = way.stores;
          bound = way.bound;
        };
        head = at.head;
        fresh = λ f. absurd (old f);
        own = λ _ n within kind. clean n (at.own (stop_loaded s tail_loaded) n within kind);
        set_stop = set_stop;
      }

  -- where it closes the group at hand
  pub closes : (batch : Batch) (s t : CleanerControl) → HasLoadedTail s → (IsBeforeTail t → ⊥) → (HasSetStop t → ⊥) → (HasWholeGroup t → ⊥) → (HasStore t → ⊥)
      → ((n : ℕ) → IsCleaned (Cleaning batch s) n → IsCleaned (Cleaning (closed batch) t) n)
      → AtBatch sizes log core batch s → AtBatch sizes log core (closed batch) t
  closes batch s t tail_loaded old set_stop whole stored clean at =
      let way = at.way tail_loaded in
      record {
        way = λ _. record {
          tail = way.tail;
          low = way.low;
          high = way.high;
          leads = way.leads;
          looked = λ i less. absurd (omega (arith, less));
          count = λ some. absurd (omega (arith, some));
          whole = λ g. absurd (whole g);
          none = λ _. refl;
          stored = λ g. absurd (stored g);
          files = way.files;
          stores = way.stores;
          bound = same_bound log batch (closed batch) refl refl refl (inr refl) way.bound;
        };
        head = at.head;
        fresh = λ f. absurd (old f);
        own = λ _ n within kind. clean n (at.own (stop_loaded s tail_loaded) n within kind);
        set_stop = λ h. absurd (set_stop h);
      }

  -- where it gives all back
  pub leaves : (owned : List Word) (batch : Batch) → batch.head ≤ core.words HEAD → At sizes log core (withdrawing owned batch)
  leaves [] batch head = tt
  leaves (cell ∷ rest) batch head = record { way = λ f. absurd f; head = head; fresh = λ f. absurd f; own = λ m. absurd m; set_stop = λ h. absurd h }

  -- nothing of the group at hand is cleaned
  abbrev pub IsPlainly : Batch → CleanerControl → Type 0
  IsPlainly batch s = (n : ℕ) → IsCleaned (Cleaning batch s) n → (batch.tail ≤ n) × (n < batch.reached + 0)

  syncs : (batch : Batch) (s : CleanerControl) (files : List ℕ) → HasLoadedTail s → IsPlainly batch s → AtBatch sizes log core batch s → At sizes log core (syncing (closed batch) files)
  syncs batch s [] tail_loaded plain at = closes batch s (MoveHeaderTail 0) tail_loaded (λ f. f) (λ f. f) (λ f. f) (λ f. f) plain at
  syncs batch s (file ∷ rest) tail_loaded plain at = closes batch s (SyncStores (file ∷ rest)) tail_loaded (λ f. f) (λ f. f) (λ f. f) (λ f. f) plain at

  pub finishes : (owned : List Word) (batch : Batch) (s : CleanerControl) → HasLoadedTail s → IsPlainly batch s → AtBatch sizes log core batch s → At sizes log core (finishing sizes owned batch)
  finishes owned batch s tail_loaded plain at = if_both (At sizes log core) (batch.reached == batch.tail) (withdrawing owned (closed batch)) (syncing (closed batch) (rising_files sizes batch))
      (λ _. leaves owned (closed batch) at.head) (λ _. syncs batch s (rising_files sizes batch) tail_loaded plain at)

  pub surveys : (owned : List Word) (batch : Batch) (s : CleanerControl) → HasLoadedTail s → IsPlainly batch s → AtBatch sizes log core batch s → At sizes log core (surveying sizes owned batch)
  surveys owned batch s tail_loaded plain at = if_both (At sizes log core) (nat_lt batch.reached batch.head) (Cleaning batch (cleaner.LoadEntry 0)) (finishing sizes owned batch)
      (λ _. turned batch s (cleaner.LoadEntry 0) tail_loaded (λ f. f) (λ f. absurd f) (λ i less _. tt) (λ _ f. absurd f) (λ _ f. absurd f) (λ _ f. absurd f) plain at)
      (λ _. finishes owned batch s tail_loaded plain at)

  pub retreats : (owned : List Word) (batch : Batch) (s : CleanerControl) (i : ℕ) → HasLoadedTail s → IsPlainly batch s → (IsBatchUnderWay sizes log core batch s → length batch.pages ≡ batch.count) → AtBatch sizes log core batch s → At sizes log core (retreating sizes owned batch i)
  retreats owned batch s i tail_loaded plain whole at = if_both (At sizes log core) (i == 0) (finishing sizes owned batch) (Cleaning batch (RefusedGiveCleanup (i - 1)))
      (λ _. finishes owned batch s tail_loaded plain at)
      (λ _. turned batch s (RefusedGiveCleanup (i - 1)) tail_loaded (λ f. f) (λ f. absurd f) (λ i less _. tt) (λ way _. whole way) (λ _ f. absurd f) (λ _ f. absurd f) plain at)

  -- the next entry of the group, or what comes behind the last
  pub goes_next : (batch : Batch) (i : ℕ) (inner : CleanerControl) (last : Control) → (i + 1 ≢ length batch.pages → AtBatch sizes log core batch inner) → (i + 1 ≡ length batch.pages → At sizes log core last) → At sizes log core (each_next batch i inner last)
  goes_next batch i inner last more done = if_both (At sizes log core) (i + 1 == length batch.pages) last (Cleaning batch inner)
      (λ e. done (eqb-true (i + 1) (length batch.pages) e)) (λ e. more (eqb-false (i + 1) (length batch.pages) e))
