-- Vectored reads: what their parts got fits their rooms, and what a law of tries asks of their place.
use Rattle.std.proofs.Common.{◌≡◌, ℕ, zero, suc, ◌+◌, ◌<◌, ◌≤◌, List, [], ◌∷◌, ◌++◌, length, map, get_or, take, drop, sym, ap, subst, ◌∙◌, arith}
use Rattle.std.specs.Prelude.{Result, Ok, Err, IfOk, Some, slice_set}
use Rattle.std.proofs.Math.ListN.{get_or-map}
use Rattle.nv_plain.specs.Calls.{filled}
use Rattle.nv_plain.specs.declared.call.FileCall.TheVariants.{Readv}
use Rattle.nv_plain.specs.declared.call.Reply.{Reply}
use Rattle.nv_plain.specs.declared.call.Reply.TheVariants.{Parts}
use Rattle.nv_table.specs.state.Views.{PassView}
use Rattle.nv_mount.specs.declared.fds.Fd.{Fd}
use Rattle.nv_mirror.specs.declared.answers.Done.{Done}
use Rattle.nv_mirror.specs.declared.answers.Refusal.{Refusal}
use Rattle.nv_mirror.specs.Answers.{IsPlacedAs}
use Rattle.nv_calls.specs.fsync.SyncRuns.{file_of_fd}
use Rattle.nv_calls.specs.reads.Reads.{IsReadvPlaced}

pub filled_count : (lens bytes : List ℕ) → length (filled lens bytes) ≡ length lens
filled_count [] bytes = omega arith
filled_count (len ∷ lens) bytes = let rest = filled_count lens (drop len bytes) in omega (arith, rest)

taken_few : (len : ℕ) (bytes : List ℕ) → length (take len bytes) ≤ len
taken_few zero bytes = omega arith
taken_few (suc len) [] = omega arith
taken_few (suc len) (byte ∷ bytes) = let rest = taken_few len bytes in omega (arith, rest)

filled_fits : (lens bytes : List ℕ) (i : ℕ) → length (get_or (filled lens bytes) i []) ≤ get_or lens i 0
filled_fits [] bytes i = omega arith
filled_fits (len ∷ lens) bytes zero = taken_few len bytes
filled_fits (len ∷ lens) bytes (suc i) = filled_fits lens (drop len bytes) i

-- rooms of these lengths have room for it
pub rooms_fit : (lens bytes : List ℕ) (parts rooms : List (List ℕ)) (i : ℕ) → parts ≡ filled lens bytes → map (λ room. length room) rooms ≡ lens → length (get_or parts i []) ≤ length (get_or rooms i [])
rooms_fit lens bytes parts rooms i are long =
    let room : length (get_or rooms i []) ≡ get_or lens i 0 = sym (get_or-map (λ (room : List ℕ). length room) rooms i []) ∙ ap (λ (lens : List ℕ). get_or lens i 0) long in
    let part = ap (λ (parts : List (List ℕ)). length (get_or parts i [])) are in
    omega (arith, room, part, filled_fits lens bytes i)

pub as_placed : (fds : List Fd) (fd at : ℕ) (lens other : List ℕ) (parts : List (List ℕ)) (old new : PassView) (result : Result Done Refusal) → other ≡ lens
    → IfOk result (λ done. (file : ℕ) × (file_of_fd fds fd ≡ Some file) × IsReadvPlaced file at other parts old new done)
    → IfOk result (λ done. (file : ℕ) × (reply : Reply) × IsPlacedAs old new (Readv file at lens) reply done.place)
as_placed fds fd at lens other parts old new (Ok done) same is = (is.0, Parts parts, subst (λ (l : List ℕ). IsPlacedAs old new (Readv is.0 at l) (Parts parts) done.place) same is.2.placed)
as_placed fds fd at lens other parts old new (Err refusal) same is = tt

-- one room more has what its part got, whatever lay there between
filled_more : (parts rooms : List (List ℕ)) (i : ℕ) (between part : List ℕ) → i < length rooms → length parts ≡ length rooms → part ≡ get_or parts i []
    → slice_set (slice_set (take i parts ++ drop i rooms) i between) i part ≡ take (suc i) parts ++ drop (suc i) rooms
filled_more parts [] i between part inside same is = absurd (omega arith)
filled_more [] (room ∷ rooms) i between part inside same is = absurd (omega (arith, same))
filled_more (first ∷ parts) (room ∷ rooms) zero between part inside same is = ap (λ (part : List ℕ). part ∷ rooms) is
filled_more (first ∷ parts) (room ∷ rooms) (suc i) between part inside same is = ap (λ (rest : List (List ℕ)). first ∷ rest) (filled_more parts rooms i between part (omega arith) (omega (arith, same)) is)

pub room_filled : (parts rooms : List (List ℕ)) (i : ℕ) (between part : List ℕ) → i < length rooms → length parts ≡ length rooms → part ≡ get_or parts i []
    → slice_set (slice_set (take i parts ++ drop i rooms) i between) i part ≡ take (i + 1) parts ++ drop (i + 1) rooms
room_filled parts rooms i between part inside same is =
    let next : suc i ≡ i + 1 = omega arith in
    filled_more parts rooms i between part inside same is ∙ ap (λ n. take n parts ++ drop n rooms) next
