-- Checks of a group, entry by entry.
use Rattle.std.proofs.Common.{◌≡◌, inl, inr, ℕ, ◌+◌, ◌-◌, ◌<◌, ◌≤◌, ◌↔◌, Bool, false, IsTrue, List, [], ◌∷◌, length, slice_index_or, zero, suc, refl, sym, ap, ◌∙◌, subst, arith}
use Rattle.std.proofs.lemmas.Bool.{cases_eq, false≢true}
use Rattle.nv_plain.specs.Images.{Image, entry_at}
use Rattle.nv_plain.specs.Layouts.{Layout}
use Rattle.nv_plain.specs.Recovered.{IsLeader, IsFollower, IsPiece, GoesOn, IsGroup}
use Rattle.nv_pmem.specs.Moments.{Tells}
use Rattle.nv_pmem.specs.Part.{Part}
use Rattle.nv_pmem.specs.Rows.{RowTells, row_words}
use Rattle.nv_pmem.specs.Steps.{PartHistory}
use Rattle.nv_pmem.proofs.RowLaws.{row_tells_any, row_tells_more, row_tells_both}
use Rattle.nv_entry.specs.declared.bounds.Bounds.{Bounds}
use Rattle.nv_entry.specs.declared.check.EntryWords.{EntryWords}
use Rattle.nv_entry.specs.Checks.{IsGood, IsFirstBad, GroupEndsAt, SaysBounds, as_entry}

-- what one part of a row tells
pub row_tells_part : (row : List PartHistory) (i : ℕ) (P : Part → Type 0) → i < length row → Tells (slice_index_or row i []) P → RowTells row (λ parts. P (slice_index_or parts i []))
row_tells_part [] i P inside told = absurd (omega arith)
row_tells_part ([] ∷ row) i P inside told = tt
row_tells_part ((now ∷ past) ∷ row) zero P inside told = row_tells_any row (λ parts. P now) (λ parts. told)
row_tells_part ((now ∷ past) ∷ row) (suc i) P inside told = row_tells_part row i P (omega arith) told

-- the leader
pub good_leader : (layout : Layout) (image : Image) (leader : ℕ) → IsLeader layout image leader → IsPiece layout image leader leader → IsGood layout image leader leader
good_leader layout image leader leads piece = record {
  leads = λ _. leads;
  follows = λ behind. absurd (omega arith);
  piece = piece;
  goes_on = λ before from next. absurd (omega arith);
}

-- an entry behind another one of the group
pub good_next : (layout : Layout) (image : Image) (leader before number file end : ℕ) → before + 1 ≡ number → leader ≤ before → GroupEndsAt image leader before file end → IsFollower image leader number → IsPiece layout image leader number → (entry_at image number).at ≡ end → IsGood layout image leader number
good_next layout image leader before number file end next from ends follows piece at = record {
  leads = λ same. absurd (omega arith);
  follows = λ _. follows;
  piece = piece;
  goes_on = λ other from_other next_other.
      let same : other ≡ before = omega arith in
      let Goes : ℕ → Type 0 = GoesOn image in
      subst Goes (sym same) (ap (λ k. (entry_at image k).at) next ∙ at ∙ sym ends.end);
}

pub goes_on_at : (layout : Layout) (image : Image) (leader before number file end : ℕ) → before + 1 ≡ number → leader ≤ before → GroupEndsAt image leader before file end → IsGood layout image leader number → (entry_at image number).at ≡ end
goes_on_at layout image leader before number file end next from ends good =
    ap (λ k. (entry_at image k).at) (sym next) ∙ good.goes_on before from next ∙ ends.end

-- How far a check has come: the numbers below this one are good, and the bytes of the last of them end here.
pub record HasChecked (layout : Layout) (image : Image) (leader number count file end : ℕ) : Type 0 where
  pub count_is : (entry_at image leader).count ≡ count
  pub good : (earlier : ℕ) → leader ≤ earlier → earlier < number → IsGood layout image leader earlier
  pub ends : GroupEndsAt image leader (number - 1) file end

pub checked_first : (layout : Layout) (image : Image) (leader count file end : ℕ) → (entry_at image leader).count ≡ count → GroupEndsAt image leader leader file end → IsGood layout image leader leader → HasChecked layout image leader (leader + 1) count file end
checked_first layout image leader count file end count_is ends good = record {
  count_is = count_is;
  good = λ earlier from below.
      let same : earlier ≡ leader = omega arith in
      let At : ℕ → Type 0 = IsGood layout image leader in
      subst At (sym same) good;
  ends =
      let before : leader + 1 - 1 ≡ leader = omega arith in
      let At : ℕ → Type 0 = λ k. GroupEndsAt image leader k file end in
      subst At (sym before) ends;
}

pub checked_next : (layout : Layout) (image : Image) (leader number count file end size : ℕ) → leader < number → HasChecked layout image leader number count file end → (entry_at image number).size ≡ size → IsGood layout image leader number → HasChecked layout image leader (number + 1) count file (end + size)
checked_next layout image leader number count file end size behind so_far size_is good = record {
  count_is = so_far.count_is;
  good = λ earlier from below. elim (cases_eq earlier number) [
    | inl same ↦ let At : ℕ → Type 0 = IsGood layout image leader in subst At (sym same) good
    | inr differs ↦ so_far.good earlier from (omega arith)
  ];
  ends =
      let before : number + 1 - 1 ≡ number = omega arith in
      let At : ℕ → Type 0 = λ k. GroupEndsAt image leader k file (end + size) in
      subst At (sym before) (record {
        file = so_far.ends.file;
        end =
            let at = goes_on_at layout image leader (number - 1) number file end (omega arith) (omega arith) so_far.ends good in
            omega (arith, at, size_is);
      });
}

-- all are good
pub checked_all : (layout : Layout) (image : Image) (leader number count file end : ℕ) → 1 ≤ count → leader + count ≤ number → HasChecked layout image leader number count file end → IsGroup layout image leader
checked_all layout image leader number count file end some over so_far = record {
  first = (so_far.good leader (omega arith) (omega arith)).leads refl;
  followers = λ k behind among. (so_far.good k among.first (omega (arith, among.last, so_far.count_is))).follows behind;
  pieces = λ k among. (so_far.good k among.first (omega (arith, among.last, so_far.count_is))).piece;
  in_a_row = λ k from among.
      (so_far.good (k + 1) among.first (omega (arith, among.last, so_far.count_is))).goes_on k from refl;
}

-- the next one isn't
pub checked_bad : (layout : Layout) (image : Image) (leader number count file end : ℕ) → leader < number → number < leader + count → HasChecked layout image leader number count file end → ¬ IsGood layout image leader number → IsFirstBad layout image leader number
checked_bad layout image leader number count file end behind below so_far bad = record {
  among = inr ((so_far.good leader (omega arith) (omega arith)).leads refl, record { first = omega arith; last = omega (arith, so_far.count_is) });
  earlier = so_far.good;
  bad = bad;
}

pub bad_first : (layout : Layout) (image : Image) (leader : ℕ) → ¬ IsGood layout image leader leader → IsFirstBad layout image leader leader
bad_first layout image leader bad = record { among = inl refl; earlier = λ before from below. absurd (omega arith); bad = bad }

-- what a test says
pub not_from_false : (test : Bool) (P : Type 0) → test ≡ false → (IsTrue test ↔ P) → ¬ P
not_from_false test P failed means p = false≢true (sym failed ∙ means.1 p)

pub from_true : (test : Bool) (P : Type 0) → IsTrue test → (IsTrue test ↔ P) → P
from_true test P passed means = means.0 passed

-- what an entry of a checked group tells, with what was told before
pub entry_tells : (layout : Layout) (row : List PartHistory) (bounds : Bounds) (words : EntryWords) (leader number count file end : ℕ) (P : List Part → Type 0) → ((parts : List Part) → HasChecked layout (row_words parts) leader number count file end → SaysBounds bounds (row_words parts) → as_entry words ≡ entry_at (row_words parts) number → P parts) → RowTells row (λ parts. HasChecked layout (row_words parts) leader number count file end) → RowTells row (λ parts. SaysBounds bounds (row_words parts)) → RowTells row (λ parts. as_entry words ≡ entry_at (row_words parts) number) → RowTells row P
entry_tells layout row bounds words leader number count file end P step checked says has =
    let Checked : List Part → Type 0 = λ parts. HasChecked layout (row_words parts) leader number count file end in
    let Says : List Part → Type 0 = λ parts. SaysBounds bounds (row_words parts) in
    let Has : List Part → Type 0 = λ parts. as_entry words ≡ entry_at (row_words parts) number in
    let Both : List Part → Type 0 = λ parts. Says parts × Has parts in
    row_tells_more row (λ parts. Checked parts × Both parts) P (λ parts all. step parts all.0 all.1.0 all.1.1)
    (row_tells_both row Checked Both checked (row_tells_both row Says Has says has))
