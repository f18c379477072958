-- Operations: which step of the core each is, on which word, and what it makes of that.
use Rattle.std.specs.Prelude.{◌≡◌, ℕ, ◌+◌, ◌<◌, ◌^◌, List, Option, Some, None}
use Rattle.std.specs.Borrow.{Bor}
use Rattle.nv_table.specs.declared.stepping.Moves.{Moves}
use Rattle.nv_table.specs.declared.stepping.Moves.TheVariants.{Stays, Comes, ComesIfFree, Goes}
use Rattle.nv_plain.specs.declared.call.FileCall.{FileCall}
use Rattle.nv_plain.specs.declared.call.FileCall.TheVariants.{Read, Write, Sync}
use Rattle.nv_table.specs.declared.stepping.Marks.{Marks}
use Rattle.nv_table.specs.declared.stepping.Marks.TheVariants.{Nothing, Draws as DrawsNumbers, Places as TakesPlace, Stops as EndsCall}
use Rattle.nv_core.specs.state.Words.{Sizes, slot_of_entry}
use Rattle.nv_core.specs.steps.Ops.{Op as CoreOp, Load as LoadOp, Take as TakeOp, Give as GiveOp, Place as PlaceOp, Stop as StopOp, Draw as DrawOp, Seize as SeizeOp, Pledge as PledgeOp, Ready as ReadyOp, Grow as GrowOp, Break as BreakOp, Hold as HoldOp, Return as ReturnOp, Turn as TurnOp, Hint as HintOp, ByCleaner as CleanerStep, ready_word}
use Rattle.nv_core.specs.state.Passes.{Pass, file_of, at_of, len_of, page_count}
use Rattle.nv_plain.specs.declared.call.Reply.{Reply}
use Rattle.nv_table.specs.state.Views.{PassView, pass_of, values_of}
use Rattle.nv_table.specs.steps.CallSteps.{reply_at}
use Rattle.nv_table.specs.declared.acting.Change.{Change}
use Rattle.nv_table.specs.declared.acting.Change.TheVariants.{Keep, Add, Subtract, Set, Exchange}
use Rattle.nv_op.specs.declared.word.Word.{Word}
use Rattle.nv_op.specs.declared.word.Word.TheVariants.{Stop as StopWord, Order, Head, Hand, Length, Entry, Hint as HintWord, Dirty}
use Rattle.nv_op.specs.declared.asked.Asked.{Asked}
use Rattle.nv_op.specs.declared.asked.Asked.TheVariants.{Read as AsksRead, Write as AsksWrite, Sync as AsksSync}
use Rattle.nv_op.specs.declared.op.Op.{Op}
use Rattle.nv_op.specs.declared.op.Op.TheVariants.{Load, Take, Give, Place, Stop, Draw, Seize, Pledge, Ready, Grow, Break, Hold, Return, Turn, Hint, ByCleaner}
use Rattle.nv_op.specs.declared.cleaner_op.CleanerOp.TheVariants as cleaner
use Rattle.nv_op.specs.CleanerOps.{core_cleaner_op, word_of_cleaner_op, cleaner_change, cleaner_moves}
use Rattle.nv_op.specs.Words.{core_word}

-- the word that an operation is made on, and what it makes of it
abbrev pub word_of_op : Sizes → Op → Word
word_of_op sizes (Load word) = word
word_of_op sizes (Take cell) = cell
word_of_op sizes (Give cell) = cell
word_of_op sizes Place = Order
word_of_op sizes Stop = StopWord
word_of_op sizes (Draw head count) = Head
word_of_op sizes (Seize number) = Entry (slot_of_entry sizes number)
word_of_op sizes (Pledge page) = Dirty page
word_of_op sizes (Ready number word) = Entry (slot_of_entry sizes number)
word_of_op sizes (Grow file length) = Length file
word_of_op sizes (Break number) = Entry (slot_of_entry sizes number)
word_of_op sizes (Hold number) = Entry (slot_of_entry sizes number)
word_of_op sizes (Return number) = Entry (slot_of_entry sizes number)
word_of_op sizes (Turn page) = Hand
word_of_op sizes (Hint buffer page) = HintWord buffer
word_of_op sizes (ByCleaner cleaner_op) = word_of_cleaner_op sizes cleaner_op

-- its sum is a number of 64 bits
abbrev pub SumIsSmall : Op → Type 0
SumIsSmall (Draw head count) = head + count < 2 ^ 64
SumIsSmall op = Unit {0}

-- what it says of the pass is so
abbrev pub Fits : Sizes → Option FileCall → Pass → Op → Type 0
Fits sizes opens pass (Draw head count) = (opens ≡ None) × (head ≡ pass.head) × (count ≡ page_count sizes pass.call)
Fits sizes opens pass (Ready number word) = (opens ≡ None) × (word ≡ ready_word sizes pass number)
Fits sizes opens pass (Grow file length) = (opens ≡ None) × (file ≡ file_of pass.call) × (length ≡ at_of pass.call + len_of pass.call)
Fits sizes opens pass (Hold number) = opens ≡ None
Fits sizes opens pass (Return number) = opens ≡ None
Fits sizes opens pass (ByCleaner cleaner_op) = opens ≡ None
Fits sizes opens pass op = Unit {0}

abbrev pub change_of : Op → Change
change_of (Load word) = Keep
change_of (Take cell) = Exchange 0 1
change_of (Give cell) = Set 0
change_of Place = Add 1
change_of Stop = Set 1
change_of (Draw head count) = Exchange head (head + count)
change_of (Seize number) = Set 1
change_of (Pledge page) = Add 1
change_of (Ready number word) = Set word
change_of (Grow file length) = Set length
change_of (Break number) = Set 5
change_of (Hold number) = Add 1
change_of (Return number) = Subtract 1
change_of (Turn page) = Add 1
change_of (Hint buffer page) = Set page
change_of (ByCleaner cleaner_op) = cleaner_change cleaner_op

-- the call that a step begins, if it does
abbrev pub call_asked : Asked → FileCall
call_asked (AsksRead file at len) = Read file at len
call_asked (AsksWrite file at bytes) = Write file at bytes.now
call_asked (AsksSync file) = Sync file

abbrev pub opened_by : Option Asked → Option FileCall
opened_by (Some asked) = Some (call_asked asked)
opened_by None = None

-- a step begins a call as what was asked, where it begins one
abbrev pub begun_as : (call : FileCall) → Option FileCall → Option FileCall
begun_as call (Some made) = Some call
begun_as call None = None

-- two steps both begin a call, or neither does
abbrev pub BeginAlike : (one other : Option FileCall) → Type 0
BeginAlike (Some one) (Some other) = Unit {0}
BeginAlike None None = Unit {0}
BeginAlike one other = ⊥

-- what is asked for, with this list where it is a write
abbrev pub asked_with : (list : Bor (List ℕ)) → Asked → Asked
asked_with list (AsksWrite file at bytes) = AsksWrite file at list
asked_with list asked = asked

abbrev pub marks_for : Option Asked → Op → Marks
marks_for (Some asked) op = Nothing
marks_for None Place = TakesPlace
marks_for None Stop = EndsCall
marks_for None (Draw head count) = DrawsNumbers
marks_for None (ByCleaner cleaner.Stop) = EndsCall
marks_for None op = Nothing

abbrev pub moves_for : Op → (slot : Option ℕ) → Moves
moves_for (Take cell) (Some slot) = ComesIfFree slot
moves_for (Give cell) (Some slot) = Goes slot
moves_for (Seize number) (Some slot) = Comes slot
moves_for (Hold number) (Some slot) = Comes slot
moves_for (Ready number word) (Some slot) = Goes slot
moves_for (Break number) (Some slot) = Goes slot
moves_for (Return number) (Some slot) = Goes slot
moves_for (ByCleaner cleaner_op) slot = cleaner_moves cleaner_op slot
moves_for op slot = Stays

-- its operation, with the reply of a call that takes its place
abbrev pub core_op_at : Reply → Op → CoreOp
core_op_at reply (Load word) = LoadOp (core_word word)
core_op_at reply (Take cell) = TakeOp (core_word cell)
core_op_at reply (Give cell) = GiveOp (core_word cell)
core_op_at reply Place = PlaceOp reply
core_op_at reply Stop = StopOp
core_op_at reply (Draw head count) = DrawOp
core_op_at reply (Seize number) = SeizeOp number
core_op_at reply (Pledge page) = PledgeOp page
core_op_at reply (Ready number word) = ReadyOp number
core_op_at reply (Grow file length) = GrowOp
core_op_at reply (Break number) = BreakOp number
core_op_at reply (Hold number) = HoldOp number
core_op_at reply (Return number) = ReturnOp number
core_op_at reply (Turn page) = TurnOp page
core_op_at reply (Hint buffer page) = HintOp buffer page
core_op_at reply (ByCleaner cleaner_op) = CleanerStep (core_cleaner_op cleaner_op)

abbrev pub core_op_of : PassView → Op → CoreOp
core_op_of view op = core_op_at (reply_at view.opened.sizes (values_of view) (pass_of view) (pass_of view).control) op
