-- Works: seats whose works were done, and the order in which works leave and come back.
use Rattle.std.proofs.Common.{◌≡◌, ℕ, suc, ◌<◌, List, [], ◌∷◌, ◌++◌, length, map, refl, sym, ap, ◌∙◌, arith, append_assoc}
use Rattle.std.specs.Prelude.{All, reverse, slice_index_or}
use Rattle.std.proofs.lemmas.List.{map_push, reverse-append}
use Rattle.std.proofs.lemmas.List.Elements.{All-cons, All-head, All-nil, All-tail}
use Rattle.nv_table.specs.passes.Seats.{past_of}
use Rattle.nv_table.specs.state.States.{PassState}
use Rattle.nv_table.specs.state.Views.{Past}
use Rattle.nv_mount.specs.Mounts.{MountState}
use Rattle.nv_runner.specs.Workers.{IsNewcomer}
use Rattle.nv_session.specs.Works.{HasDone, IsShift, SeatState, Shift}

-- the works of some seats
abbrev pub works_of : {W : Type 0} → List (SeatState W) → List W
works_of seats = map (λ seat. seat.work) seats

-- Each seat has had one shift, from what it was to what it is.
pub record HaveServed {W : Type 0} (does : MountState → W → W → PassState → PassState → Type 0) (mount : MountState) (ended : List Past) (old new : List (SeatState W)) : Type 0 where
  pub shifts : List (Shift W)
  pub each : All (IsShift does mount ended) shifts
  pub befores : map (λ shift. shift.before) shifts ≡ works_of old
  pub afters : map (λ shift. shift.after) shifts ≡ works_of new
  pub lasts : map (λ shift. past_of shift.last.view) shifts ≡ map (λ seat. past_of seat.session.view) new

module _ {W : Type 0} (does : MountState → W → W → PassState → PassState → Type 0) (mount : MountState) (ended : List Past) where
  abbrev IsNew : SeatState W → Type 0
  IsNew seat = IsNewcomer mount.board.opened ended seat.session

  pub have_served : (old new : List (SeatState W)) → length new ≡ length old
      → ((i : ℕ) (d : SeatState W) → i < length old → HasDone does mount (slice_index_or old i d) (slice_index_or new i d)) → All IsNew old → HaveServed does mount ended old new
  have_served [] [] long did fresh = record { shifts = []; each = All-nil (IsShift does mount ended); befores = refl; afters = refl; lasts = refl }
  have_served [] (new ∷ more) long did fresh = absurd (omega (arith, long))
  have_served (old ∷ others) [] long did fresh = absurd (omega (arith, long))
  have_served (old ∷ others) (new ∷ more) long did fresh =
      let rest = have_served others more (omega (arith, long)) (λ i d below. did (suc i) d (omega (arith, below))) (All-tail IsNew old others fresh) in
      let shift : Shift W = record { before = old.work; after = new.work; start = old.session; last = new.session } in
      let is : IsShift does mount ended shift = record { newcomer = All-head IsNew old others fresh; did = did 0 old (omega arith) } in
      record {
        shifts = shift ∷ rest.shifts;
        each = All-cons (IsShift does mount ended) shift rest.shifts is rest.each;
        befores = ap (λ l. old.work ∷ l) rest.befores;
        afters = ap (λ l. new.work ∷ l) rest.afters;
        lasts = ap (λ l. past_of new.session.view ∷ l) rest.lasts;
      }

-- ---- a work leaves from the end, and its seat stands behind the others

pub reverse_push : {X : Type 0} (xs : List X) (x : X) → reverse (xs ++ x ∷ []) ≡ x ∷ reverse xs
reverse_push xs x = reverse-append xs (x ∷ [])

pub works_push : {W : Type 0} (seats : List (SeatState W)) (seat : SeatState W) → reverse (works_of (seats ++ seat ∷ [])) ≡ seat.work ∷ reverse (works_of seats)
works_push seats seat = ap reverse (map_push (λ s. s.work) seats seat) ∙ reverse_push (works_of seats) seat.work

-- so all works stay in their order
pub work_moves : {W : Type 0} (works : List W) (seats : List (SeatState W)) (seat : SeatState W)
    → works ++ reverse (works_of (seats ++ seat ∷ [])) ≡ (works ++ seat.work ∷ []) ++ reverse (works_of seats)
work_moves works seats seat = ap (λ l. works ++ l) (works_push seats seat) ∙ sym (append_assoc works (seat.work ∷ []) (reverse (works_of seats)))
