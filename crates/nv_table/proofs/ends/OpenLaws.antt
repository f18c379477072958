-- Opening: the words and slots that a mount begins with meet the invariant, where no event has come.
use Rattle.std.proofs.Common.{◌≡◌, ℕ, zero, suc, ◌<◌, List, [], ◌∷◌, length, get_or, map, inl, refl, sym, ap, subst, ◌∙◌, arith}
use mathlib.Core.Option.{some, some-injective, some-ne-none}
use lib.ListN.{get_elem?}
use Rattle.atomic_table.specs.Table.{opening as laid}
use Rattle.nv_core.specs.state.Words.{Word, HEAD, TAIL, LENGTH, HINT, place}
use Rattle.nv_core.specs.state.Values.{Value, Bare}
use Rattle.nv_core.specs.invariant.OneHistory.{IsPrefix}
use Rattle.nv_core.specs.steps.Opening.{IsMount, opening_word, opening}
use Rattle.nv_table.specs.state.Layout.{slot_total, cell_of}
use Rattle.nv_table.specs.state.Opened.{Opened, mount_of, held_in}
use Rattle.nv_table.specs.ends.OpeningWords.{worded, AreOpeningWords}
use Rattle.nv_table.specs.state.Views.{PassView, first_view, KnowsRun, AllBegin}
use Rattle.nv_table.specs.invariant.TableInvariant.{IsKept, AtHome, KeeperKnows, TableInvariant}
use Rattle.nv_table.proofs.state.LayoutLaws.{place_within, place_there, slot_there}

-- a word at opening doesn't tell of the slots
worded_same : (opened : Opened) (word : Word) → opening_word (worded opened.sizes opened.next opened.lengths) word ≡ opening_word (mount_of opened) word
worded_same opened HEAD = refl
worded_same opened TAIL = refl
worded_same opened (LENGTH file) = refl
worded_same opened (HINT buffer) = refl
worded_same opened word = refl

-- nothing has come that its seat had to see
pub knows_nothing : (opened : Opened) → KnowsRun opened [] (first_view opened)
knows_nothing opened = record {
  mount = refl;
  all = record { rest = []; goes_on = refl; quiet = refl };
  made = omega arith;
  there = λ one. one;
}

-- there is one seat
only_seat : {V : Type 0} (one other : V) (seat : ℕ) → get_elem? (one ∷ []) seat ≡ some other → (seat ≡ 0) × (other ≡ one)
only_seat one other zero is = (refl, sym (some-injective one other is))
only_seat one other (suc seat) is = absurd (some-ne-none other (sym is))

-- each slot is at home
held_there : {S : Type 0} (shown : S → Value) (xs : List S) (slot : ℕ) → slot < length xs → (held : S) × (get_elem? (map some xs) slot ≡ some (some held)) × (shown held ≡ get_or (map shown xs) slot Bare)
held_there shown [] slot less = absurd (omega arith)
held_there shown (one ∷ rest) zero less = (one, refl, refl)
held_there shown (one ∷ rest) (suc slot) less = held_there shown rest slot (omega arith)

module _ {S : Type 0} (shown : S → Value) (opened : Opened) (words : List ℕ) (xs : List S) (slots : opened.slots ≡ map shown xs) where
  kept_there : length xs ≡ slot_total opened.sizes → (slot : ℕ) → slot < slot_total opened.sizes
      → IsKept shown (opening (mount_of opened)) (cell_of opened.sizes slot) (get_elem? (map some xs) slot)
  kept_there many slot less =
      let one = held_there shown xs slot (omega arith) in
      let is : (mount_of opened).values (cell_of opened.sizes slot) ≡ get_or (map shown xs) slot Bare =
      ap (held_in opened.slots) (slot_there opened.sizes slot less).0 ∙ ap (λ (all : List Value). get_or all slot Bare) slots in
      AtHome one.0 one.1 (one.2 ∙ sym is) (λ number. refl)

  pub opens_shows : IsMount (mount_of opened) → AreOpeningWords opened.sizes opened.next opened.lengths words → length xs ≡ slot_total opened.sizes
      → TableInvariant shown opened (laid words xs (first_view opened))
  opens_shows mount are many = record {
    mount = mount;
    run = [];
    is_run = tt;
    few = omega arith;
    count = are.count;
    words = λ word is. are.each (place opened.sizes word) (place_within opened.sizes word is)
        ∙ ap (opening_word (worded opened.sizes opened.next opened.lengths)) (place_there opened.sizes word is) ∙ worded_same opened word;
    homes = kept_there many;
    seen = λ seat view at. subst (λ (s : PassView). IsPrefix s.run [] × AllBegin s.told []) (sym (only_seat (first_view opened) view seat at).1) (([], refl), tt);
    knows = λ seat view at live. subst (KnowsRun opened []) (sym (only_seat (first_view opened) view seat at).1) (knows_nothing opened);
    apart = λ one other view view_other at at_other live live_other is. (only_seat (first_view opened) view one at).0 ∙ sym (only_seat (first_view opened) view_other other at_other).0;
    keeper = λ seat view at live zero_is. subst (KeeperKnows opened [] (first_view opened ∷ [])) (sym (only_seat (first_view opened) view seat at).1) keeps_none;
  }
    where
      keeps_none : KeeperKnows opened [] (first_view opened ∷ []) (first_view opened)
      keeps_none = record {
        seated = λ seat view at live. let e = ap (λ (s : PassView). s.number) (only_seat (first_view opened) view seat at).1 in omega (arith, e);
        unborn = λ number more. refl;
        ended = λ past one. absurd one;
        gone = λ past one. absurd one;
        once = tt;
        taken = inl refl;
      }
