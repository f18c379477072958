-- The batch holds no STORE of a file before it.
use Rattle.std.proofs.Common.{◌+◌, Bool, true, false, if◌then◌else◌, [], ◌∷◌, sym, ap, ◌∙◌}
use Rattle.std.proofs.lemmas.Bool.{lt-ltb}
use Rattle.nv_table.specs.state.Keys.{sizes_of}
use Rattle.nv_clean.specs.Cleaning.{files_from}
use Rattle.nv_clean.proofs.FileLaws.{files_first}
use Rattle.nv_clean.proofs.batch.CleanMachine.next_store.Goals as goal

pub loop-file-preserved : goal.loop-file-preserved
loop-file-preserved c =
    sym (files_first (sizes_of c.args.layout) c.args.self.now.batch c.loop-file.file false c.loop-file-test.true (sym c.holds_store.ensures ∙ c.if-not-holds_store.true)) ∙ c.loop-file.invariant

pub returns-else-not-holds_store : goal.returns-else-not-holds_store
returns-else-not-holds_store c =
    let file = c.loop-file.file in
    let rest = files_from (sizes_of c.args.layout) c.args.self.now.batch (file + 1) in
    sym c.loop-file.invariant
    ∙ files_first (sizes_of c.args.layout) c.args.self.now.batch file true c.loop-file-test.true (sym c.holds_store.ensures ∙ c.if-not-holds_store.false)
    ∙ sym (ap (λ (b : Bool). if b then file ∷ rest else []) (lt-ltb file c.args.layout.files c.loop-file-test.true))
