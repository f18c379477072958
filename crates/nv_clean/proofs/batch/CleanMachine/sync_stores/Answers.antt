-- Each store is synced in its turn.
use Rattle.std.proofs.Common.{◌≡◌, ℕ, ◌+◌, ◌-◌, ◌<◌, true, false, List, ◌∙◌, sym, ap, subst, arith}
use Rattle.std.specs.Prelude.{Some, filter}
use Rattle.std.specs.List.{range_with_len}
use Rattle.nv_core.specs.state.Cleaner as cleaner
use Rattle.nv_core.specs.state.Passes.{Cleaning, IsOneOf}
use Rattle.nv_core.specs.state.Values.{Value, StoreSync, Made}
use Rattle.nv_core.specs.state.Words.{Sizes, STORE}
use Rattle.nv_core.specs.steps.CleanerSteps.{holds_store}
use Rattle.nv_core.specs.invariant.Shapes.{HaveShapes, IsStore}
use Rattle.nv_table.specs.state.Opened.{Opened, mount_of}
use Rattle.nv_table.specs.state.States.{IsOf, PassState}
use Rattle.nv_table.specs.state.Views.{PassView, slot_times}
use Rattle.nv_pages.specs.DeviceCalls.{HasCalled}
use Rattle.nv_pages.specs.PageWork.{store_slot}
use Rattle.nv_pages.proofs.StoreLaws.{on_err}
use Rattle.nv_clean.specs.declared.batch.CleanRefusal.TheVariants.{StoreFault}
use Rattle.nv_clean.specs.Cleaning.{IsBehind, IsUnderWay, files_from}
use Rattle.nv_clean.specs.Retiring.{IsSyncing}
use Rattle.nv_clean.proofs.FileLaws.{files_first, files_none}
use Rattle.nv_clean.proofs.RetireLaws.{syncing_begins, sync_slot_once, sync_slot_is, was_synced, sync_failed}
use Rattle.nv_clean.proofs.batch.CleanMachine.sync_stores.Goals as goal
use Rattle.nv_clean.proofs.batch.CleanMachine.sync_stores.Goals.{then-holds_store+in_ok-sync_store, else-holds_store}

pub loop-file-init : goal.loop-file-init
loop-file-init g c =
    let m = c.args.self.now in
    let pass = c.args.pass.now in
    let all : pass.view.opened.sizes.files - 0 ≡ pass.view.opened.sizes.files = omega arith in (
      c.requires.board,
      λ start way.
          subst (λ count. IsSyncing m (filter (holds_store m.batch) (range_with_len 0 count)) start pass pass) (sym all)
          (syncing_begins c.runs_are_sound.ensures.runs pass c.sees_a_run.ensures.mount c.sees_a_run.ensures.run m c.requires.at start way
          (subst (λ (o : Opened). (file : ℕ) → file < o.sizes.files → IsStore ((mount_of o).values (STORE file))) (sym c.requires.board.same_mount) c.keeps_stores_and_buffers.ensures.stores)
          (c.cells_keep_their_shapes.ensures (mount_of pass.view.opened) pass.view.run c.sees_a_run.ensures.mount
          (subst (λ (o : Opened). HaveShapes o.sizes.page (mount_of o).values (mount_of o).values) (sym c.requires.board.same_mount) c.keeps_stores_and_buffers.ensures.shapes) c.sees_a_run.ensures.run)),
    )

pub sync_store-requires-clause-owns_slots : goal.sync_store-requires-clause-owns_slots
sync_store-requires-clause-owns_slots g c =
    let m = c.args.self.now in
    let file = c.loop-file.file in
    let sizes = c.args.pass.now.view.opened.sizes in
    let held : holds_store m.batch file ≡ true = sym c.holds_store.ensures ∙ c.if-holds_store.true in
    let low : file < sizes.files = subst (λ (s : Sizes). file < s.files) (c.layout-layout.ensures ∙ sym (ap (λ (o : Opened). o.sizes) c.requires.board.same_mount)) c.loop-file-test.true in
    subst (λ (o : Opened). slot_times (store_slot o.sizes file) c.loop-file.pass.now ≡ 1) c.requires.board.same_mount
    (sync_slot_once m file (files_from sizes m.batch (file + 1)) c.requires.way.0 c.args.pass.now c.loop-file.pass
    (subst (λ (files : List ℕ). IsSyncing m files c.requires.way.0 c.args.pass.now c.loop-file.pass) (files_first sizes m.batch file true low held) (c.loop-file.invariant.1 c.requires.way.0 c.requires.way.1)) held)

pub sync_store-requires-clause-store : goal.sync_store-requires-clause-store
sync_store-requires-clause-store g c =
    let m = c.args.self.now in
    let file = c.loop-file.file in
    let sizes = c.args.pass.now.view.opened.sizes in
    let held : holds_store m.batch file ≡ true = sym c.holds_store.ensures ∙ c.if-holds_store.true in
    let low : file < sizes.files = subst (λ (s : Sizes). file < s.files) (c.layout-layout.ensures ∙ sym (ap (λ (o : Opened). o.sizes) c.requires.board.same_mount)) c.loop-file-test.true in
    subst (λ (o : Opened). (value : Value) → IsOneOf c.loop-file.pass.now (store_slot o.sizes file, value) → IsStore value) c.requires.board.same_mount
    (sync_slot_is m file (files_from sizes m.batch (file + 1)) c.requires.way.0 c.args.pass.now c.loop-file.pass
    (subst (λ (files : List ℕ). IsSyncing m files c.requires.way.0 c.args.pass.now c.loop-file.pass) (files_first sizes m.batch file true low held) (c.loop-file.invariant.1 c.requires.way.0 c.requires.way.1)) held)

pub returns-in_err-sync_store-clause-failed : goal.returns-in_err-sync_store-clause-failed
returns-in_err-sync_store-clause-failed g c =
    let m = c.args.self.now in
    let file = c.loop-file.file in
    let sizes = c.args.pass.now.view.opened.sizes in
    let held : holds_store m.batch file ≡ true = sym c.holds_store.ensures ∙ c.if-holds_store.true in
    let low : file < sizes.files = subst (λ (s : Sizes). file < s.files) (c.layout-layout.ensures ∙ sym (ap (λ (o : Opened). o.sizes) c.requires.board.same_mount)) c.loop-file-test.true in
    on_err c.from_residual.result ((start : PassState) → IsUnderWay m start c.args.pass.now → IsBehind (Cleaning m.batch (cleaner.SetStop 0)) (Some StoreFault) m start c.args.pass.now c.sync_store.new.pass)
    (λ start way.
    sync_failed m file (files_from sizes m.batch (file + 1)) start c.args.pass.now c.loop-file.pass
    (subst (λ (files : List ℕ). IsSyncing m files start c.args.pass.now c.loop-file.pass) (files_first sizes m.batch file true low held) (c.loop-file.invariant.1 start way)) held
    c.in_err-sync_store.ensures.0 c.sync_store.new.pass c.in_err-sync_store.ensures.1)

pub loop-file-preserved : goal.loop-file-preserved
loop-file-preserved g c =
    let m = c.args.self.now in
    let file = c.loop-file.file in
    let sizes = c.args.pass.now.view.opened.sizes in
    let low : file < sizes.files = subst (λ (s : Sizes). file < s.files) (c.layout-layout.ensures ∙ sym (ap (λ (o : Opened). o.sizes) c.requires.board.same_mount)) c.loop-file-test.true in
    elim c.if-holds_store.branch [
      | then-holds_store+in_ok-sync_store w ↦
          let held : holds_store m.batch file ≡ true = sym c.holds_store.ensures ∙ w.if-holds_store.true in
          let call : HasCalled (STORE file) StoreSync Made c.loop-file.pass w.sync_store.new.pass = w.in_ok-sync_store.ensures in (
            record {
              same_table = ap (λ (p : PassState). p.table) w.pass-is ∙ call.altered.table ∙ c.loop-file.invariant.0.same_table;
              same_mount = ap (λ (p : PassState). p.view.opened) w.pass-is ∙ ap (λ (v : PassView). v.opened) call.altered.view ∙ c.loop-file.invariant.0.same_mount;
            },
            λ start way.
                subst (IsSyncing m (files_from sizes m.batch (file + 1)) start c.args.pass.now) (sym w.pass-is)
                (was_synced m file (files_from sizes m.batch (file + 1)) start c.args.pass.now c.loop-file.pass
                (subst (λ (files : List ℕ). IsSyncing m files start c.args.pass.now c.loop-file.pass) (files_first sizes m.batch file true low held) (c.loop-file.invariant.1 start way)) held
                w.sync_store.new.pass call),
          )
      | else-holds_store w ↦
          let none : holds_store m.batch file ≡ false = sym c.holds_store.ensures ∙ w.if-holds_store.false in (
            subst (IsOf c.args.board.now) (sym w.pass-is) c.loop-file.invariant.0,
            λ start way.
                subst (IsSyncing m (files_from sizes m.batch (file + 1)) start c.args.pass.now) (sym w.pass-is)
                (subst (λ (files : List ℕ). IsSyncing m files start c.args.pass.now c.loop-file.pass) (files_first sizes m.batch file false low none) (c.loop-file.invariant.1 start way)),
          )
    ]

pub returns-clause-synced : goal.returns-clause-synced
returns-clause-synced g c start way =
    let m = c.args.self.now in
    let sizes = c.args.pass.now.view.opened.sizes in
    let same : c.layout-layout.result.files ≡ sizes.files = ap (λ (s : Sizes). s.files) (c.layout-layout.ensures ∙ sym (ap (λ (o : Opened). o.sizes) c.requires.board.same_mount)) in
    let high = c.loop-file-test.false in
    let past : c.loop-file.file < sizes.files → ⊥ = λ low. omega (arith, same, high, low) in
    subst (λ (files : List ℕ). IsSyncing m files start c.args.pass.now c.loop-file.pass) (files_none sizes m.batch c.loop-file.file past) (c.loop-file.invariant.1 start way)
