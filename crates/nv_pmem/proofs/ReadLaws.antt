-- Laws about parts that are only read.
use Rattle.std.proofs.Common.{◌≡◌, ℕ, ◌<◌, List, [], ◌∷◌, length, get_or, map, set, sum_by, zero, suc, refl, ap, ◌∙◌, arith}
use Rattle.std.proofs.lemmas.List.Sums.{sum_by-set, get_or-le-sum_by}
use Rattle.std.specs.List.{AllZip}
use Rattle.nv_plain.specs.Faults.{Rose}
use Rattle.nv_pmem.specs.Room.{Room, Keeps}
use Rattle.nv_pmem.specs.Rows.{AreOnlyRead}
use Rattle.nv_pmem.specs.Steps.{PartHistory}
use Rattle.nv_pmem.proofs.Rooms.{Keeps-none, Keeps-more}

map-set_same : {X Y : Type 0} (f : X → Y) (xs : List X) (i : ℕ) (y d : X) → i < length xs → f y ≡ f (get_or xs i d) → map f (set xs i y) ≡ map f xs
map-set_same f [] i y d below same = absurd (omega arith)
map-set_same f (x ∷ xs) zero y d below same = ap (λ z. z ∷ map f xs) same
map-set_same f (x ∷ xs) (suc i) y d below same = ap (λ rest. f x ∷ rest) (map-set_same f xs i y d (omega arith) same)

zip_refl : {P : Type 0} (room : P → Room) (parts : List P) → AllZip (λ before now. Keeps (room before) (room now)) parts parts
zip_refl room [] = tt
zip_refl room (part ∷ parts) = (Keeps-none (room part), zip_refl room parts)

zip_trans : {P : Type 0} (room : P → Room) (old between new : List P) → AllZip (λ before now. Keeps (room before) (room now)) old between → AllZip (λ before now. Keeps (room before) (room now)) between new → AllZip (λ before now. Keeps (room before) (room now)) old new
zip_trans room [] [] [] a b = tt
zip_trans room [] [] (z ∷ new) a b = absurd b
zip_trans room [] (y ∷ between) new a b = absurd a
zip_trans room (x ∷ old) [] new a b = absurd a
zip_trans room (x ∷ old) (y ∷ between) [] a b = absurd b
zip_trans room (x ∷ old) (y ∷ between) (z ∷ new) a b = (Keeps-more a.0 b.0, zip_trans room old between new a.1 b.1)

zip_set : {P : Type 0} (room : P → Room) (parts : List P) (i : ℕ) (part d : P) → i < length parts → Keeps (room (get_or parts i d)) (room part) → AllZip (λ before now. Keeps (room before) (room now)) parts (set parts i part)
zip_set room [] i part d inside keeps = absurd (omega arith)
zip_set room (x ∷ parts) zero part d inside keeps = (keeps, zip_refl room parts)
zip_set room (x ∷ parts) (suc i) part d inside keeps = (Keeps-none (room x), zip_set room parts i part d (omega arith) keeps)

-- nothing was done
pub only_read_none : {P : Type 0} (history : P → PartHistory) (room : P → Room) (device : P → ℕ) (parts : List P) → AreOnlyRead history room device parts parts
only_read_none history room device parts = record { histories = refl; rooms = zip_refl room parts; devices = refl }

-- parts are read, and then read again
pub only_read_more : {P : Type 0} {history : P → PartHistory} {room : P → Room} {device : P → ℕ} {old between new : List P} → AreOnlyRead history room device old between → AreOnlyRead history room device between new → AreOnlyRead history room device old new
only_read_more {room = room} {old} {between} {new} a b = record {
  histories = b.histories ∙ a.histories;
  rooms = zip_trans room old between new a.rooms b.rooms;
  devices = b.devices ∙ a.devices;
}

-- one part is read
pub only_read_one : {P : Type 0} (history : P → PartHistory) (room : P → Room) (device : P → ℕ) (parts : List P) (i : ℕ) (part d : P) → i < length parts → history part ≡ history (get_or parts i d) → Keeps (room (get_or parts i d)) (room part) → device part ≡ device (get_or parts i d) → AreOnlyRead history room device parts (set parts i part)
only_read_one history room device parts i part d inside same keeps is = record {
  histories = map-set_same history parts i part d inside same;
  rooms = zip_set room parts i part d inside keeps;
  devices = map-set_same device parts i part d inside is;
}

-- the counts of faults of parts of which one was read well, or not
pub faults_set_same : {P : Type 0} (count : P → ℕ) (parts : List P) (i : ℕ) (part d : P) → i < length parts → count part ≡ count (get_or parts i d) → sum_by count (set parts i part) ≡ sum_by count parts
faults_set_same count parts i part d inside same = omega (arith, sum_by-set count parts i part d inside)

pub faults_set_rose : {P : Type 0} (count : P → ℕ) (parts : List P) (i : ℕ) (part d : P) → i < length parts → Rose (count (get_or parts i d)) (count part) → Rose (sum_by count parts) (sum_by count (set parts i part))
faults_set_rose count parts i part d inside rose =
    let changed = sum_by-set count parts i part d inside in
    let within = get_or-le-sum_by count parts i d inside in
    record { never_falls = omega (arith, rose.never_falls); more = omega (arith, rose.more) }
