-- Laws about the history of a device in memory: what it is now, and its past, each seen in one way.
use Rattle.std.proofs.Common.{◌≡◌, List, [], ◌∷◌, map, ap, ◌∙◌}

-- a new device has no past
pub none_before : {X Y : Type 0} (see : X → Y) {now first : Y} {past : List X} → now ≡ first → past ≡ [] → now ∷ map see past ≡ first ∷ []
none_before see {now} {first} {past} same none = ap (λ states. now ∷ map see states) none ∙ ap (λ state. state ∷ []) same

-- what it was is noted, and then it changes
pub noted_before : {X Y : Type 0} (see : X → Y) {now next : Y} {was : X} {past before : List X} → now ≡ next → past ≡ was ∷ before → now ∷ map see past ≡ next ∷ (see was ∷ map see before)
noted_before see {now} {next} {was} {past} {before} same noted =
    ap (λ states. now ∷ map see states) noted ∙ ap (λ state. state ∷ (see was ∷ map see before)) same
