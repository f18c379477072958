use Rattle.std.proofs.Common.{◌≡◌, ℕ, ◌+◌, ◌%◌, ◌<◌, List, [], length, map, slice_index_or, sym, ap, ◌∙◌, subst, arith}
use Rattle.std.proofs.lemmas.List.{length-map, get_or-map}
use Rattle.std.proofs.lemmas.Result.{IfOk-weaker}
use Rattle.nv_plain.specs.Images.{entry_of, entry_at}
use Rattle.nv_pmem.specs.Moments.{Tells}
use Rattle.nv_pmem.specs.Part.{Part, part_word}
use Rattle.nv_pmem.specs.Rows.{RowTells, row_words}
use Rattle.nv_pmem.specs.Steps.{PartHistory}
use Rattle.nv_pmem.proofs.ReadLaws.{only_read_one}
use Rattle.nv_pmem.proofs.RowLaws.{row_tells_more, row_tells_both}
use Rattle.nv_entry.specs.declared.bounds.Bounds.{Bounds}
use Rattle.nv_entry.specs.declared.check.EntryWords.{EntryWords}
use Rattle.nv_entry.specs.Checks.{SaysBounds, as_entry}
use Rattle.nv_entry.proofs.Checking.{row_tells_part}
use Rattle.nv_entry.proofs.Slots.{slot_lines}
use Rattle.nv_entry.proofs.check.read_entry.Goals as goal

-- the words of the part in a number's slot are those of its entry
in_slot : (row : List PartHistory) (bounds : Bounds) (number : ℕ) (words : EntryWords) → 1 + number % bounds.entries < length row → RowTells row (λ parts. SaysBounds bounds (row_words parts)) → Tells (slice_index_or row (1 + number % bounds.entries) []) (λ now. as_entry words ≡ entry_of (part_word now)) → RowTells row (λ parts. as_entry words ≡ entry_at (row_words parts) number)
in_slot row bounds number words inside header told =
    let slot = 1 + number % bounds.entries in
    let Says : List Part → Type 0 = λ parts. SaysBounds bounds (row_words parts) in
    let Has : List Part → Type 0 = λ parts. as_entry words ≡ entry_of (part_word (slice_index_or parts slot [])) in
    row_tells_more row (λ parts. Says parts × Has parts) (λ parts. as_entry words ≡ entry_at (row_words parts) number)
    (λ parts both. both.1 ∙ ap (λ entries. entry_of (row_words parts (1 + number % entries))) (sym both.0.entries))
    (row_tells_both row Says Has header
    (row_tells_part row slot (λ now. as_entry words ≡ entry_of (part_word now)) inside told))

pub entry_words-requires : goal.entry_words-requires
entry_words-requires g c =
    let bounds = c.args.bounds.now in
    record {
      lines =
          slot_lines g.L.Lines.room 1 bounds.entries c.args.parts.now (c.args.number % bounds.entries) c.index-parts-slot.result
          (omega arith) (omega arith) c.requires.lines;
    }

pub returns-clause-words : goal.returns-clause-words
returns-clause-words g c =
    let histories : List PartHistory = map g.L.Lines.history c.args.parts.now in
    let slot = 1 + c.args.number % c.args.bounds.now.entries in
    let item = c.index-parts-slot.result in
    let inside : slot < length c.args.parts.now = omega arith in
    let same : g.L.Lines.history (slice_index_or c.args.parts.now slot item) ≡ slice_index_or histories slot [] =
    sym (get_or-map g.L.Lines.history c.args.parts.now slot item [] inside) in
    IfOk-weaker c.entry_words.result
    (λ words. Tells (g.L.Lines.history (slice_index_or c.args.parts.now slot item)) (λ now. as_entry words ≡ entry_of (part_word now)))
    (λ words. RowTells histories (λ parts. as_entry words ≡ entry_at (row_words parts) c.args.number))
    (λ words told.
    let At : PartHistory → Type 0 = λ history. Tells history (λ now. as_entry words ≡ entry_of (part_word now)) in
    in_slot histories c.args.bounds.now c.args.number words (omega (arith, length-map c.args.parts.now g.L.Lines.history)) c.requires.header
    (subst At same told))
    c.entry_words.ensures.words

pub returns-clause-read : goal.returns-clause-read
returns-clause-read g c =
    only_read_one g.L.Lines.history g.L.Lines.room g.L.Lines.device c.args.parts.now (1 + c.args.number % c.args.bounds.now.entries) c.entry_words.new.part
    c.index-parts-slot.result (omega arith) c.entry_words.ensures.history c.entry_words.ensures.room c.entry_words.ensures.device
