-- Cleaner operations: which step of a batch each is in the core, on which word, and what it makes of that.
use Rattle.std.specs.Prelude.{ℕ, Option, Some}
use Rattle.nv_table.specs.declared.stepping.Moves.{Moves}
use Rattle.nv_table.specs.declared.stepping.Moves.TheVariants.{Stays, Comes, ComesIfFree, Goes}
use Rattle.nv_core.specs.state.Words.{Sizes, slot_of_entry}
use Rattle.nv_core.specs.state.Cleaner.{CleanerOp as CoreCleanerOp, TakeCleaner as TakeCleanerOp, Clean as CleanOp, Subtract as SubtractOp, Free as FreeOp, MoveTail as MoveTailOp}
use Rattle.nv_core.specs.state.Cleaner as cleaner
use Rattle.nv_table.specs.declared.acting.Change.{Change}
use Rattle.nv_table.specs.declared.acting.Change.TheVariants.{Keep, Add, Subtract as Subtracts, Set, Exchange}
use Rattle.nv_op.specs.declared.word.Word.{Word}
use Rattle.nv_op.specs.declared.word.Word.TheVariants.{Stop as StopWord, Tail, Cleaner, Entry, Dirty}
use Rattle.nv_op.specs.declared.cleaner_op.CleanerOp.{CleanerOp}
use Rattle.nv_op.specs.declared.cleaner_op.CleanerOp.TheVariants.{TakeCleaner, Load, Take, Give, Hold, Return, Clean, Subtract, Free, MoveTail, Stop}
use Rattle.nv_op.specs.Words.{core_word}

abbrev pub core_cleaner_op : CleanerOp → CoreCleanerOp
core_cleaner_op (TakeCleaner most) = TakeCleanerOp most
core_cleaner_op (Load word) = cleaner.Load (core_word word)
core_cleaner_op (Take cell) = cleaner.Take (core_word cell)
core_cleaner_op (Give cell) = cleaner.Give (core_word cell)
core_cleaner_op (Hold number) = cleaner.Hold number
core_cleaner_op (Return number) = cleaner.Return number
core_cleaner_op (Clean number) = CleanOp number
core_cleaner_op (Subtract page) = SubtractOp page
core_cleaner_op (Free number) = FreeOp number
core_cleaner_op (MoveTail tail) = MoveTailOp tail
core_cleaner_op Stop = cleaner.Stop

-- the word that it is made on, and what it makes of it
abbrev pub word_of_cleaner_op : Sizes → CleanerOp → Word
word_of_cleaner_op sizes (TakeCleaner most) = Cleaner
word_of_cleaner_op sizes (Load word) = word
word_of_cleaner_op sizes (Take cell) = cell
word_of_cleaner_op sizes (Give cell) = cell
word_of_cleaner_op sizes (Hold number) = Entry (slot_of_entry sizes number)
word_of_cleaner_op sizes (Return number) = Entry (slot_of_entry sizes number)
word_of_cleaner_op sizes (Clean number) = Entry (slot_of_entry sizes number)
word_of_cleaner_op sizes (Subtract page) = Dirty page
word_of_cleaner_op sizes (Free number) = Entry (slot_of_entry sizes number)
word_of_cleaner_op sizes (MoveTail tail) = Tail
word_of_cleaner_op sizes Stop = StopWord

abbrev pub cleaner_change : CleanerOp → Change
cleaner_change (TakeCleaner most) = Exchange 0 1
cleaner_change (Load word) = Keep
cleaner_change (Take cell) = Exchange 0 1
cleaner_change (Give cell) = Set 0
cleaner_change (Hold number) = Add 1
cleaner_change (Return number) = Subtracts 1
cleaner_change (Clean number) = Add 1
cleaner_change (Subtract page) = Subtracts 1
cleaner_change (Free number) = Set 0
cleaner_change (MoveTail tail) = Set tail
cleaner_change Stop = Set 1

abbrev pub cleaner_moves : CleanerOp → (slot : Option ℕ) → Moves
cleaner_moves (Take cell) (Some slot) = ComesIfFree slot
cleaner_moves (Hold number) (Some slot) = Comes slot
cleaner_moves (Give cell) (Some slot) = Goes slot
cleaner_moves (Return number) (Some slot) = Goes slot
cleaner_moves (Clean number) (Some slot) = Goes slot
cleaner_moves op slot = Stays
