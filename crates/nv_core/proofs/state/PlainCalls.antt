-- Plain calls: each is made as itself, and replies what the call as made does.
use Rattle.std.proofs.Common.{◌≡◌, ℕ, List, ap, ◌∙◌, refl}
use Rattle.std.specs.List.{concat, sum}
use Rattle.nv_plain.specs.Made.{reply_from}
use Rattle.nv_plain.specs.declared.call.FileCall.{FileCall}
use Rattle.nv_plain.specs.declared.call.FileCall.TheVariants.{Read, Write, Readv, Writev, Sync}
use Rattle.nv_plain.specs.declared.call.Reply.{Reply}
use Rattle.nv_core.specs.state.Passes.{Pass, plain_call}
use Rattle.nv_core.specs.steps.PassSteps.{as_answered}

-- a vectored call is made as another one
pub summed_elsewhere : (file at : ℕ) (lens : List ℕ) → plain_call (Readv file at lens) ≡ Readv file at lens → ⊥
summed_elsewhere file at lens same = let never : Read file at (sum lens) ≡ Readv file at lens = same in absurd (cc)

pub joined_elsewhere : (file at : ℕ) (parts : List (List ℕ)) → plain_call (Writev file at parts) ≡ Writev file at parts → ⊥
joined_elsewhere file at parts same = let never : Write file at (concat parts) ≡ Writev file at parts = same in absurd (cc)

-- what a call is made as is plain
pub made_plain : (call : FileCall) → plain_call (plain_call call) ≡ plain_call call
made_plain (Read file at len) = refl
made_plain (Write file at bytes) = refl
made_plain (Readv file at lens) = refl
made_plain (Writev file at parts) = refl
made_plain (Sync file) = refl

its_reply : (call : FileCall) (reply : Reply) → plain_call call ≡ call → reply_from call reply ≡ reply
its_reply (Read file at len) reply plain = refl
its_reply (Write file at bytes) reply plain = refl
its_reply (Readv file at lens) reply plain = absurd (summed_elsewhere file at lens plain)
its_reply (Writev file at parts) reply plain = refl
its_reply (Sync file) reply plain = refl

-- so the history has a pass's call as it is made, where a plain one was asked
pub as_it_is : (number : ℕ) (pass : Pass) (reply : Reply) (call : FileCall) → pass.asked ≡ call → plain_call call ≡ call → as_answered number pass reply ≡ record { caller = number; call = call; reply = reply }
as_it_is number pass reply call asked plain =
    ap (λ (c : FileCall). record { caller = number; call = c; reply = reply_from c reply }) asked
    ∙ ap (λ (r : Reply). record { caller = number; call = call; reply = r }) (its_reply call reply plain)
