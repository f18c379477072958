use Rattle.std.proofs.Common.{◌≡◌, ◌∙◌, ◌+◌, ℕ, All, List, [], map, ap, refl, sym, subst}
use Rattle.std.specs.Prelude.{sum_by}
use Rattle.std.proofs.lemmas.Result.{IfOk-weaker}
use Rattle.nv_plain.specs.Faults.{Rose}
use Rattle.nv_pmem.specs.Part.{Part}
use Rattle.nv_pmem.specs.RowStates.{AreNow, row_tells_at}
use Rattle.nv_pmem.specs.Steps as lines
use Rattle.nv_store.specs.Store.{Store}
use Rattle.nv_recover.specs.Standing.{files_of}
use Rattle.nv_header.proofs.InRow.{region_as}
use Rattle.nv_open.specs.Unopened.{line_counts}
use Rattle.nv_table.specs.state.Opened.{mount_of}
use Rattle.nv_mount.specs.Telling.{mounted_lines}
use Rattle.nv_runner.specs.Faithful.{Basis}
use Rattle.nv_top.specs.Lives.{AreLeftSo, tells_as}
use Rattle.nv_top.specs.Runs.{BeginsMount, HasRunBehind, IsQuietSpare, basis_over}
use Rattle.nv_top.specs.Shows.{trace_run}
use Rattle.nv_top.proofs.CauseLemmas.{stop_ends}
use Rattle.nv_top.proofs.LifeLemmas.{left_same, rest_lives}
use Rattle.nv_top.proofs.RanLemmas.{begins_all, told_of_first, unread}
use Rattle.nv_top.proofs.RunLemmas.{quiet_stores}
use Rattle.nv_top.proofs.run.run_region.Goals as goal

pub returns-in_default-clause-ran : goal.returns-in_default-clause-ran
returns-in_default-clause-ran g c =
    let history = g.L.Lines.history in
    let held = g.B.Backing.history in
    let region = c.args.region in
    let all = trace_run c.args.show c.args.input.now.trace in
    let back = c.into_parts.result.items in
    let same : map history back ≡ map history region.parts.items = ap (λ parts. map history parts.items) c.into_parts.ensures.parts in (
      all,
      [],
      unread c.args.show c.args.input.now _ _ _ _ c.requires.input c.requires.well_formed,
      λ parts now parts_are now_are.
          rest_lives history held (basis_over region c.args.options.pages (files_of now)) all back c.args.stores.items parts now region.next
          (subst (λ (row : List lines.PartHistory). AreNow row parts) (sym same) parts_are) now_are (region_as c.requires.version c.into_parts.ensures.region).tells (quiet_stores held c.args.stores.items now now_are c.requires.quiet) refl
          (told_of_first c.args.show _ c.args.options.worker (basis_over region c.args.options.pages (files_of now)) c.args.input.now c.requires.input),
      tt,
    )

pub returns-in-Ok-mount_over-clause-ran : goal.returns-in-Ok-mount_over-clause-ran
returns-in-Ok-mount_over-clause-ran g c =
    let history = g.L.Lines.history in
    let held = g.B.Backing.history in
    let region = c.args.region in
    let show = c.args.show in
    let names = c.in-Ok.names in
    let mount = c.in-Ok-mount_over.mount in
    let pass = c.in-Ok-mount_over.pass in
    let made = c.in-Ok-mount_over.ensures in
    let came = c.run_mount.result in
    let ran = c.run_mount.ensures.ran in
    let all = ran.0 in
    let shown = ran.1 in
    let basis : List Store → Basis = λ now. basis_over region c.args.options.pages (files_of now) in
    let begins : (parts : List Part) (now : List Store) → AreNow (map history region.parts.items) parts → AreNow (map held c.args.stores.items) now → BeginsMount (basis now) all mount pass = λ parts now parts_are now_are.
    begins_all show c.args.input.now _ came.ended all ran.2.trace (basis now) mount pass (made.begins parts now parts_are now_are) in
    let last = sum_by g.L.Lines.fault_count came.parts.items + sum_by g.B.Backing.fault_count came.stores.items in
    let failed : Type 0 = Rose (sum_by g.L.Lines.fault_count region.parts.items + sum_by g.B.Backing.fault_count c.args.stores.items) last in
    let same_names : names ≡ region.names = c.in-Ok.ensures ∙ c.as_slice.ensures ∙ c.names.ensures in (
      all,
      shown,
      ran.2,
      λ parts now parts_are now_are.
          let Counted : List ℕ → Type 0 = λ counts. AreLeftSo (tells_as show failed c.args.options.worker) history held (basis now) all shown counts came.parts.items came.stores.items in
          subst Counted (row_tells_at (map history region.parts.items) (λ told. mounted_lines (mount_of mount.board.opened) pass.spare ≡ line_counts told) parts parts_are made.lines)
          (subst (λ count. AreLeftSo (tells_as show (Rose count last) c.args.options.worker) history held (basis now) all shown (mounted_lines (mount_of mount.board.opened) pass.spare) came.parts.items came.stores.items) made.counts
          (ran.3 (basis now) (begins parts now parts_are now_are))),
      IfOk-weaker came.report
          (λ text. (basis : Basis) → BeginsMount basis all mount pass → basis.names ≡ names → All IsQuietSpare pass.spare → HasRunBehind history held show c.args.options.worker basis all shown text.items came.parts.items came.stores.items)
          (λ text. (parts : List Part) (now : List Store) → AreNow (map history region.parts.items) parts → AreNow (map held c.args.stores.items) now
          → HasRunBehind history held show c.args.options.worker (basis now) all shown text.items came.parts.items came.stores.items)
          (λ text run parts now parts_are now_are. run (basis now) (begins parts now parts_are now_are) (sym same_names) (made.spare parts parts_are))
          ran.4,
    )

pub returns-clause-ran : goal.returns-clause-ran
returns-clause-ran g c =
    let history = g.L.Lines.history in
    let held = g.B.Backing.history in
    let region = c.args.region in
    let stores = c.args.stores.items in
    let before = sum_by g.L.Lines.fault_count region.parts.items + sum_by g.B.Backing.fault_count stores in
    let failed : Type 0 = Rose before (sum_by g.L.Lines.fault_count c.in-Err.field-0.parts.items + sum_by g.B.Backing.fault_count c.in-Err.field-0.stores.items) in
    let all = trace_run c.args.show c.args.input.now.trace in (
      all,
      [],
      unread c.args.show c.args.input.now _ _ _ _ c.requires.input c.requires.well_formed,
      λ parts now parts_are now_are.
          let basis = basis_over region c.args.options.pages (files_of now) in
          let rest = rest_lives {Tells = tells_as c.args.show failed c.args.options.worker} history held basis all region.parts.items stores parts now region.next parts_are now_are (region_as c.requires.version region.is_region).tells (quiet_stores held stores now now_are c.requires.quiet) refl
          (told_of_first c.args.show failed c.args.options.worker basis c.args.input.now c.requires.input) in
          left_same history held basis all [] (line_counts parts) c.in-Err.field-0.parts.items region.parts.items c.in-Err.field-0.stores.items stores c.in-Err.ensures.same_parts c.in-Err.ensures.same_stores rest,
      tt,
    )

pub returns-clause-cause : goal.returns-clause-cause
returns-clause-cause g c =
    stop_ends (sum_by g.L.Lines.fault_count c.args.region.parts.items + sum_by g.B.Backing.fault_count c.args.stores.items)
    (sum_by g.L.Lines.fault_count c.in-Err.field-0.parts.items + sum_by g.B.Backing.fault_count c.in-Err.field-0.stores.items) c.in-Err.field-0.stop c.in-Err.ensures.never c.in-Err.ensures.cause
