use Rattle.std.proofs.Common.{◌≡◌, ℕ, ◌+◌, ◌*◌, ◌<◌, ◌≤◌, length, ◌++◌, ◌∷◌, [], List, take, drop, refl, sym, ap, ◌∙◌, subst, arith}
use Rattle.nv_plain.specs.Layouts.{layout_of, version_2}
use Rattle.nv_plain.specs.declared.limits.Version.{Version}
use Rattle.nv_pmem.specs.Steps.{LineStep, Flush, DidLineStep, DidSome, line_stores}
use Rattle.nv_pmem.proofs.StepLaws.{did_some_all}
use Rattle.nv_header.specs.Heads.{record_line}
use Rattle.nv_header.specs.HeaderSteps.{name_record, record_part}
use Rattle.nv_header.specs.Noted.{NotesLines}
use Rattle.nv_header.proofs.NotedLaws.{notes_none, notes_more, notes_line}
use Rattle.nv_header.proofs.RecordSteps.{line_steps, lines_steps, lines_none, lines_more, lines_some_more, record_lines-are, record_part-longest}
use Rattle.nv_header.proofs.VersionLaws.{record_line-next, record_line-inside}
use Rattle.nv_header.proofs.writing.write_record.Goals as goal

-- a line that is written is one of the record's
written : (first at k : ℕ) (bytes part : List ℕ) → at ≡ first → bytes ≡ part → line_stores (at + k) bytes ++ Flush (at + k) ∷ [] ≡ line_steps (first + k) part
unfolding line_steps
written first at k bytes part at_is bytes_are =
    ap (λ n. line_stores (n + k) bytes ++ Flush (n + k) ∷ []) at_is
    ∙ ap (λ these. line_stores (first + k) these ++ Flush (first + k) ∷ []) bytes_are

part_is : (version : Version) (name bytes all : List ℕ) (k : ℕ) → length name ≤ (layout_of version).name_limit → k < (layout_of version).lines_per_name → all ≡ name_record version_2 name → bytes ≡ take 64 (drop (64 * k) all) → bytes ≡ record_part (layout_of version) name k
part_is version name bytes all k fits inside all_is is =
    is ∙ ap (λ these. take 64 (drop (64 * k) these)) all_is ∙ record_part-longest version name k fits inside

pub loop-k-init : goal.loop-k-init
loop-k-init g c = record { did = lines_none (record_line (layout_of c.args.version) c.args.index) (record_part (layout_of c.args.version) c.args.name.now) _; room = notes_none _ _; faults = refl; device = refl }

pub write_line-requires-clause-line : goal.write_line-requires-clause-line
write_line-requires-clause-line g c =
    omega (arith, c.requires.lines, c.loop-k.invariant.room.lines_are, record_line-inside c.args.version c.args.index c.requires.index)

pub write_line-requires-clause-spare : goal.write_line-requires-clause-spare
write_line-requires-clause-spare g c =
    let line = record_line (layout_of c.args.version) c.args.index + c.loop-k.k in
    let At : ℕ → Type 0 = λ n. 1 ≤ (g.L.Lines.room c.loop-k.header).spare n in
    subst At (ap (λ n. n + c.loop-k.k) (sym c.record_line-first.ensures))
    (omega (
      arith,
      c.requires.spare line (omega arith) (omega (arith, record_line-inside c.args.version c.args.index c.requires.index)),
      c.loop-k.invariant.room.rest line (omega arith),
    ))

pub returns-in_err-write_line-clause-begun : goal.returns-in_err-write_line-clause-begun
returns-in_err-write_line-clause-begun g c =
    let layout = layout_of c.args.version in
    let first = record_line layout c.args.index in
    let parts = record_part layout c.args.name.now in
    let inside : c.loop-k.k < layout.lines_per_name = omega (arith, c.lines_per_name-k-end.ensures) in
    let Steps : List LineStep → Type 0 = λ steps. DidSome steps (g.L.Lines.history c.args.header.now) (g.L.Lines.history c.write_line.new.header) in
    let Line : List LineStep → Type 0 = λ steps. DidSome steps (g.L.Lines.history c.loop-k.header) (g.L.Lines.history c.write_line.new.header) in
    subst Steps (sym (record_lines-are layout c.args.index c.args.name.now))
    (lines_some_more first parts c.loop-k.k layout.lines_per_name inside c.loop-k.invariant.did
    (subst Line
    (written first c.record_line-first.result c.loop-k.k _ (parts c.loop-k.k) c.record_line-first.ensures
    (part_is c.args.version c.args.name.now _ _ c.loop-k.k c.requires.size inside c.record_of-record.ensures c.record_part-part.ensures))
    c.write_line.ensures.begun))

pub returns-in_err-write_line-clause-lines : goal.returns-in_err-write_line-clause-lines
returns-in_err-write_line-clause-lines g c = c.write_line.ensures.room.lines ∙ c.loop-k.invariant.room.lines_are

pub loop-k-preserved : goal.loop-k-preserved
loop-k-preserved g c =
    let layout = layout_of c.args.version in
    let first = record_line layout c.args.index in
    let parts = record_part layout c.args.name.now in
    let inside : c.loop-k.k < layout.lines_per_name = omega (arith, c.lines_per_name-k-end.ensures) in
    let Line : List LineStep → Type 0 = λ steps. DidLineStep steps (g.L.Lines.history c.loop-k.header) (g.L.Lines.history c.write_line.new.header) in
    record {
      did =
          lines_more first parts c.loop-k.k (c.loop-k.k + 1) refl c.loop-k.invariant.did
          (subst Line
          (written first c.record_line-first.result c.loop-k.k _ (parts c.loop-k.k) c.record_line-first.ensures
          (part_is c.args.version c.args.name.now _ _ c.loop-k.k c.requires.size inside c.record_of-record.ensures c.record_part-part.ensures))
          c.in_ok-write_line.ensures.done);
      room =
          notes_more (first + c.loop-k.k) (first + (c.loop-k.k + 1)) (omega arith) c.loop-k.invariant.room
          (notes_line (c.record_line-first.result + c.loop-k.k) (first + (c.loop-k.k + 1)) (omega (arith, c.record_line-first.ensures)) c.write_line.ensures.room c.in_ok-write_line.ensures.flushed);
      faults = c.in_ok-write_line.ensures.cause ∙ c.loop-k.invariant.faults;
      device = c.write_line.ensures.device ∙ c.loop-k.invariant.device;
    }

pub returns-clause-done : goal.returns-clause-done
returns-clause-done g c =
    let Count : ℕ → Type 0 = λ k. DidLineStep (lines_steps (record_line (layout_of c.args.version) c.args.index) (record_part (layout_of c.args.version) c.args.name.now) 0 k) (g.L.Lines.history c.args.header.now) (g.L.Lines.history c.loop-k.header) in
    let Steps : List LineStep → Type 0 = λ steps. DidLineStep steps (g.L.Lines.history c.args.header.now) (g.L.Lines.history c.loop-k.header) in
    subst Steps (sym (record_lines-are (layout_of c.args.version) c.args.index c.args.name.now))
    (subst Count (omega (arith, c.lines_per_name-k-end.ensures)) c.loop-k.invariant.did)

pub returns-clause-begun : goal.returns-clause-begun
returns-clause-begun g c = did_some_all (returns-clause-done g c)

pub returns-clause-room : goal.returns-clause-room
returns-clause-room g c =
    let first = record_line (layout_of c.args.version) c.args.index in
    let Notes : ℕ → Type 0 = λ end. NotesLines end (g.L.Lines.room c.args.header.now) (g.L.Lines.room c.loop-k.header) in
    let end : first + c.loop-k.k ≡ record_line (layout_of c.args.version) (c.args.index + 1) =
    omega (arith, record_line-next c.args.version c.args.index, c.lines_per_name-k-end.ensures) in
    subst Notes end c.loop-k.invariant.room
