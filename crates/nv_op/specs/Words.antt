-- Words: which word of the core each is.
use Rattle.nv_core.specs.state.Words.{Word as CoreWord, STOP, ORDER, HEAD, TAIL, HAND, CLEANER, HEADER, SIZE, LENGTH, STORE, ENTRY, HINT, PAGE, CLEANUP, DIRTY}
use Rattle.nv_op.specs.declared.word.Word.{Word}
use Rattle.nv_op.specs.declared.word.Word.TheVariants.{Stop, Order, Head, Tail, Hand, Cleaner, Header, Size, Length, Store, Entry, Hint, Page, Cleanup, Dirty}

abbrev pub core_word : Word → CoreWord
core_word Stop = STOP
core_word Order = ORDER
core_word Head = HEAD
core_word Tail = TAIL
core_word Hand = HAND
core_word Cleaner = CLEANER
core_word Header = HEADER
core_word (Size file) = SIZE file
core_word (Length file) = LENGTH file
core_word (Store file) = STORE file
core_word (Entry slot) = ENTRY slot
core_word (Hint buffer) = HINT buffer
core_word (Page page) = PAGE page
core_word (Cleanup page) = CLEANUP page
core_word (Dirty page) = DIRTY page
