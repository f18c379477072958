-- Call answers: what a call is answered, and what it tells once it has its place.
use Rattle.std.specs.Prelude.{ℕ, Option, Some, None, option_map, Result, Ok, Err}
use Rattle.nv_mirror.specs.declared.answers.Done.{Done}
use Rattle.nv_mirror.specs.declared.answers.Refusal.{Refusal}

-- the answer of a call that has its place
abbrev pub done_of : Result Done Refusal → Option Done
done_of (Ok done) = Some done
done_of (Err refusal) = None

-- ---- of a call whose answer is so many bytes

-- what it is answered where its steps came to this
abbrev pub answer_of : (len : ℕ) → Result ℕ Refusal → Result Done Refusal
answer_of len (Ok place) = Ok record { place = place; len = len }
answer_of len (Err refusal) = Err refusal

-- and what it tells, once it has its place
abbrev pub done_at : (len : ℕ) → Option ℕ → Option Done
done_at len place = option_map (λ place. record { place = place; len = len }) place
