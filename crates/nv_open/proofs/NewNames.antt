-- Names that are put behind those of a region.
use Rattle.std.proofs.Common.{◌≡◌, ℕ, ◌+◌, ◌<◌, ◌≤◌, Bool, true, false, cond, not, List, [], ◌∷◌, ◌++◌, suc, length, take, get_or, refl, sym, ap, ◌∙◌, subst, arith, inl, inr, length-append, append_assoc, IsTrue}
use Rattle.std.specs.Prelude.{nat_eq}
use Rattle.std.specs.Cmp.Lexicographic.{other_text}
use Rattle.std.proofs.lemmas.Bool.{cases_lt}
use Rattle.std.proofs.lemmas.List.{append-nil, get_or_default, get_or_append_left, get_or_push, length-take-le}
use Rattle.std.proofs.lemmas.List.Folds.{list_any_at}
use Rattle.std.proofs.lemmas.List.Elements.{filter_more}
use lib.Pointwise.{pointwise}
use Rattle.nv_plain.specs.Layouts.{Layout, layout_of, mount_layout}
use Rattle.nv_plain.specs.declared.limits.Version.{Version}
use Rattle.nv_plain.specs.declared.limits.Version.TheVariants.{One, Two}
use Rattle.nv_plain.specs.Names.{is_name}
use Rattle.nv_header.specs.Additions.{IsNotAdded}
use Rattle.nv_header.specs.FileNames.{AreFileNames, IsNewName}
use Rattle.nv_header.proofs.MigrateLaws.{names_of_2}
use Rattle.nv_header.specs.declared.adding.AddError.{AddError}
use Rattle.nv_header.specs.declared.adding.AddError.TheVariants as adding
use Rattle.nv_open.specs.Adding.{AreWanted, is_known, new_names, all_names, of_adding}
use Rattle.nv_open.specs.declared.error.OpenError.TheVariants as error
use Rattle.nv_open.specs.declared.error.Refusal.{Refusal}
use Rattle.nv_open.proofs.Openings.{not_lent, is_allowed}

-- names of any version are those of a mount's
pub for_mount : (version : Version) (names : List (List ℕ)) → AreFileNames (layout_of version) names → AreFileNames mount_layout names
for_mount One names are = names_of_2 names are
for_mount Two names are = are

-- a name that may come next isn't refused
pub not_refused : (known missing names : List (List ℕ)) (name : List ℕ) (i : ℕ) (failure : AddError) (why : Refusal) → AreFileNames mount_layout (known ++ missing) → i < length missing
    → name ≡ get_or missing i [] → names ≡ known ++ take i missing → IsNotAdded mount_layout names name failure → of_adding failure ≡ error.Refused why → ⊥
not_refused known missing names name i adding.TooManyFiles why are below is names_are full same =
    omega (arith, are.few, length-append known missing, length-append known (take i missing), length-take-le i missing (omega arith), ap length names_are)
not_refused known missing names name i (adding.BadName at) why are below is names_are bad same =
    bad.1 (record {
      allowed = subst (λ (one : List ℕ). IsTrue (is_name mount_layout.name_limit one)) (sym is) (is_allowed mount_layout known missing i below are);
      new = λ j inside at_j.
          let front : get_or (known ++ take i missing) j [] ≡ get_or missing i [] = ap (λ (these : List (List ℕ)). get_or these j []) (sym names_are) ∙ at_j ∙ is in
          let within : j < length (known ++ take i missing) = omega (arith, ap length names_are) in
          not_lent mount_layout known missing i below are (j, within, get_or_default (known ++ take i missing) j (get_or missing i []) [] within ∙ front);
    })
not_refused known missing names name i adding.NoMemory why are below is names_are can same = cc
not_refused known missing names name i adding.RegionFault why are below is names_are can same = cc

-- ---- the new names of those that are wanted

-- names, and one more that is none of them
wanted_more : (layout : Layout) (names : List (List ℕ)) (name : List ℕ) → IsNewName layout names name → AreWanted layout names → AreWanted layout (names ++ name ∷ [])
wanted_more layout names name new are =
    let long = length-append names (name ∷ []) in
    let Allowed : List ℕ → Type 0 = λ one. IsTrue (is_name layout.name_limit one) in
    record {
      allowed = λ i inside. elim (cases_lt i (length names)) [
        | inl before ↦ subst Allowed (sym (get_or_append_left names (name ∷ []) [] i before)) (are.allowed i before)
        | inr past ↦ subst Allowed (sym (get_or_push names name [] i (omega arith))) new.allowed
      ];
      distinct = λ i j before inside same. elim (cases_lt j (length names)) [
        | inl earlier ↦ are.distinct i j before earlier (sym (get_or_append_left names (name ∷ []) [] i (omega arith)) ∙ same ∙ get_or_append_left names (name ∷ []) [] j earlier)
        | inr past ↦ new.new i (omega arith) (sym (get_or_append_left names (name ∷ []) [] i (omega arith)) ∙ same ∙ get_or_push names name [] j (omega arith))
      ];
    }

-- one name more is looked at
added_name : (known wanted : List (List ℕ)) (i : ℕ) (item : List ℕ) (found : Bool) → i < length wanted → item ≡ get_or wanted i [] → found ≡ is_known known item
    → new_names known (take (i + 1) wanted) ≡ new_names known (take i wanted) ++ cond (not found) (item ∷ []) []
added_name known wanted i item found below is test =
    filter_more (λ (name : List ℕ). not (is_known known name)) wanted i [] below
    ∙ (λ j. new_names known (take i wanted) ++ cond (not (is_known known (sym is j))) (sym is j ∷ []) [])
    ∙ ap (λ (answer : Bool). new_names known (take i wanted) ++ cond (not answer) (item ∷ []) []) (sym test)

pub added_new : (known wanted : List (List ℕ)) (i : ℕ) (item copy : List ℕ) (found : Bool) (old new : List (List ℕ)) → i < length wanted → item ≡ get_or wanted i [] → found ≡ is_known known item
    → found ≡ false → copy ≡ item → old ≡ new_names known (take i wanted) → new ≡ old ++ copy ∷ [] → new ≡ new_names known (take (i + 1) wanted)
added_new known wanted i item copy found old new below is test absent same old_is new_is =
    new_is ∙ ap (λ (front : List (List ℕ)). front ++ copy ∷ []) old_is ∙ ap (λ (one : List ℕ). new_names known (take i wanted) ++ one ∷ []) same
    ∙ ap (λ (answer : Bool). new_names known (take i wanted) ++ cond (not answer) (item ∷ []) []) (sym absent)
    ∙ sym (added_name known wanted i item found below is test)

pub added_old : (known wanted : List (List ℕ)) (i : ℕ) (item : List ℕ) (found : Bool) (old new : List (List ℕ)) → i < length wanted → item ≡ get_or wanted i [] → found ≡ is_known known item
    → found ≡ true → old ≡ new_names known (take i wanted) → new ≡ old → new ≡ new_names known (take (i + 1) wanted)
added_old known wanted i item found old new below is test there old_is new_is =
    new_is ∙ old_is ∙ sym (append-nil (new_names known (take i wanted)))
    ∙ ap (λ (answer : Bool). new_names known (take i wanted) ++ cond (not answer) (item ∷ []) []) (sym there)
    ∙ sym (added_name known wanted i item found below is test)

-- a name of the front that comes again is one of the known
pub record Repeats (known front wanted : List (List ℕ)) : Type 0 where
  pub only : (j k : ℕ) → j < length front → k < length wanted → get_or front j [] ≡ get_or wanted k [] → is_known known (get_or wanted k []) ≡ true

true_unless : (b : Bool) → ¬ (false ≡ b) → b ≡ true
true_unless true never = refl
true_unless false never = absurd (never refl)

true_text : (one other : List ℕ) → one ≡ other → pointwise nat_eq one other ≡ true
true_text one other same = true_unless (pointwise nat_eq one other) (λ differ. other_text one other differ same)

pub known_at : (known : List (List ℕ)) (j : ℕ) (name : List ℕ) → j < length known → get_or known j [] ≡ name → is_known known name ≡ true
known_at known j name below is =
    list_any_at (λ one. pointwise nat_eq one name) known j [] below (true_text (get_or known j []) name is)

-- the new names that are wanted are put behind, one by one
all_cases : (layout : Layout) (known front : List (List ℕ)) (name : List ℕ) (wanted : List (List ℕ)) (found : Bool) → found ≡ is_known known name
    → AreWanted layout front → AreWanted layout (name ∷ wanted) → Repeats known front (name ∷ wanted)
    → ((next : List (List ℕ)) → AreWanted layout next → Repeats known next wanted → AreWanted layout (next ++ new_names known wanted))
    → AreWanted layout (front ++ cond (not found) (name ∷ new_names known wanted) (new_names known wanted))
all_cases layout known front name wanted true test are asked repeats rest =
    rest front are (record { only = λ j k inside below same. repeats.only j (suc k) inside (omega arith) same })
all_cases layout known front name wanted false test are asked repeats rest =
    subst (AreWanted layout) (append_assoc front (name ∷ []) (new_names known wanted))
    (rest (front ++ name ∷ [])
    (wanted_more layout front name (record {
      allowed = asked.allowed 0 (omega arith);
      new = λ j inside same. let never : false ≡ true = test ∙ repeats.only j 0 inside (omega arith) same in cc;
    }) are)
    (record {
      only = λ j k inside below same. elim (cases_lt j (length front)) [
        | inl before ↦ repeats.only j (suc k) before (omega arith) (sym (get_or_append_left front (name ∷ []) [] j before) ∙ same)
        | inr past ↦ absurd (asked.distinct 0 (suc k) (omega arith) (omega arith) (sym (get_or_push front name [] j (omega (arith, length-append front (name ∷ [])))) ∙ same))
      ];
    }))

all_from : (layout : Layout) (known front wanted : List (List ℕ)) → AreWanted layout front → AreWanted layout wanted → Repeats known front wanted → AreWanted layout (front ++ new_names known wanted)
all_from layout known front [] are asked repeats = subst (AreWanted layout) (sym (append-nil front)) are
all_from layout known front (name ∷ wanted) are asked repeats =
    all_cases layout known front name wanted (is_known known name) refl are asked repeats
    (λ next next_are more. all_from layout known next wanted next_are (record {
      allowed = λ i inside. asked.allowed (suc i) (omega arith);
      distinct = λ i j before inside. asked.distinct (suc i) (suc j) (omega arith) (omega arith);
    }) more)

-- Where they are few enough, all the names are those of a region.
pub all_are_names : (known wanted : List (List ℕ)) → AreFileNames mount_layout known → AreWanted mount_layout wanted → length (all_names known wanted) ≤ 64 → AreFileNames mount_layout (all_names known wanted)
all_are_names known wanted are asked few =
    let all = all_from mount_layout known known wanted (record { allowed = are.allowed; distinct = are.distinct }) asked
    (record { only = λ j k inside below same. known_at known j (get_or wanted k []) inside same }) in
    record { few = few; allowed = all.allowed; distinct = all.distinct }
