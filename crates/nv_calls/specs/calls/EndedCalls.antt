-- Ended calls: a read or a write that is over.
use Rattle.std.specs.Prelude.{◌≡◌, ℕ, Option, Some, None, Result, Err}
use Rattle.nv_plain.specs.declared.call.FileCall.{FileCall}
use Rattle.nv_table.specs.state.States.{PassState}
use Rattle.nv_mirror.specs.declared.answers.Done.{Done}
use Rattle.nv_mirror.specs.declared.answers.Refusal.{Refusal}
use Rattle.nv_mirror.specs.Answers.{place_in_answer, refusal_in_answer}
use Rattle.nv_mirror.specs.Controls.{IsOver}

-- What it asks for is refused before any step; or it was a call of its descriptor's file, of which this is so.
abbrev pub IsOverBy : (early : Option Refusal) → (file : Option ℕ) → (IsDone : (file : ℕ) → Type 0) → (start now : PassState) → Result Done Refusal → Type 0
IsOverBy (Some refusal) file IsDone start now result = (result ≡ Err refusal) × (now ≡ start)
IsOverBy None file IsDone start now result = (one : ℕ) × (file ≡ Some one) × IsDone one

-- or it was that call of the file, over by its steps
abbrev pub IsCallOver : (early : Option Refusal) → (file : Option ℕ) → (asks : (file : ℕ) → FileCall) → (start now : PassState) → Result Done Refusal → Type 0
IsCallOver early file asks start now result = IsOverBy early file (λ one. IsOver (asks one) (refusal_in_answer result) (place_in_answer result) start now) start now result
