-- Asks: what a file is asked for, and the read or the write that this is made as.
use Rattle.std.specs.Prelude.{◌≡◌, ℕ, List}
use Rattle.nv_plain.specs.declared.call.FileCall.{FileCall}
use Rattle.nv_plain.specs.declared.call.FileCall.TheVariants.{Read, Write, Readv, Writev}
use Rattle.nv_core.specs.state.Passes.{plain_call}

-- What a file is asked for by a read into a list of so many bytes: these, or parts of these lengths.
abbrev pub asks_read : (at : ℕ) → (len file : ℕ) → FileCall
asks_read at = λ len file. Read file at len

abbrev pub asks_readv : (at : ℕ) → (lens : List ℕ) → (len file : ℕ) → FileCall
asks_readv at lens = λ len file. Readv file at lens

-- and by a write: to write these bytes, or these parts.
abbrev pub asks_write : (at : ℕ) → (bytes : List ℕ) → (file : ℕ) → FileCall
asks_write at bytes = λ file. Write file at bytes

abbrev pub asks_writev : (at : ℕ) → (parts : List (List ℕ)) → (file : ℕ) → FileCall
asks_writev at parts = λ file. Writev file at parts

-- It is made as a read of so many bytes, whichever the file is.
abbrev pub IsMadeAsRead : (asks : (len file : ℕ) → FileCall) → (at len : ℕ) → Type 0
IsMadeAsRead asks at len = (file : ℕ) → plain_call (asks len file) ≡ Read file at len

-- It is made as a write of these bytes.
abbrev pub IsMadeAsWrite : (asks : (file : ℕ) → FileCall) → (at : ℕ) → (bytes : List ℕ) → Type 0
IsMadeAsWrite asks at bytes = (file : ℕ) → plain_call (asks file) ≡ Write file at bytes
