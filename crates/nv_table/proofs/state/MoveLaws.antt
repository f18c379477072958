-- Moves: what leaves the end of a list that was turned round comes behind what has left it before.
use Rattle.std.proofs.Common.{◌≡◌, ℕ, ◌+◌, ◌<◌, List, [], ◌∷◌, ◌++◌, length, get_or, take, drop, map, reverse, sym, ap, ap₂, ◌∙◌}
use Rattle.std.proofs.lemmas.List.{drop_more, take_more, same_from_push, append_assoc, append-nil, map-append, reverse-append}

-- so many have moved to the end of another list, each put into a form
pub record HasMoved {X Y : Type 0} (form : X → Y) (all : List X) (many : ℕ) (before moved : List Y) (left : List X) : Type 0 where
  pub moved_are : moved ≡ before ++ map form (take many all)
  pub left_are : left ≡ reverse (drop many all)

pub none_yet : {X Y : Type 0} (form : X → Y) (all : List X) (before moved : List Y) (left : List X) → moved ≡ before → left ≡ reverse all → HasMoved form all 0 before moved left
none_yet form all before moved left is turned = record { moved_are = is ∙ sym (append-nil before); left_are = turned }

pub one_more : {X Y : Type 0} (form : X → Y) (all : List X) (many : ℕ) (before moved next : List Y) (left rest : List X) (one : X)
    → HasMoved form all many before moved left → many < length all → left ≡ rest ++ one ∷ [] → next ≡ moved ++ form one ∷ [] → HasMoved form all (many + 1) before next rest
one_more {X = X} form all many before moved next left rest one has less last is =
    let split : rest ++ one ∷ [] ≡ reverse (drop (many + 1) all) ++ get_or all many one ∷ [] = sym last ∙ has.left_are ∙ ap reverse (drop_more all many one less) ∙ reverse-append (get_or all many one ∷ []) (drop (many + 1) all) in
    let both = same_from_push rest (reverse (drop (many + 1) all)) one (get_or all many one) split in
    record {
      moved_are =
          is ∙ ap₂ (λ (m : List _) (x : X). m ++ form x ∷ []) has.moved_are both.1 ∙ append_assoc before (map form (take many all)) (form (get_or all many one) ∷ [])
          ∙ ap (λ m. before ++ m) (sym (map-append form (take many all) (get_or all many one ∷ [])) ∙ ap (map form) (sym (take_more all many one less)));
      left_are = both.0;
    }
