use Rattle.std.proofs.Common.{◌≡◌, map, length, sym, ap, subst, ◌∙◌}
use Rattle.std.specs.Prelude.{Result, Ok, Err, IfOk}
use Rattle.nv_plain.specs.Files.{Files}
use Rattle.nv_core.specs.content.Content.{Opens}
use Rattle.nv_core.specs.log.LogContent.{OpensLog}
use Rattle.nv_core.specs.crash.CrashImages.{OpensRegion}
use Rattle.nv_core.specs.state.Words.{Sizes}
use Rattle.nv_table.specs.state.Opened.{Opened, mount_of}
use Rattle.nv_table.specs.state.Views.{PassView}
use Rattle.nv_table.specs.ends.Begun.{begun_sizes}
use Rattle.nv_mount.specs.ClosedAtRest.{AreAtRest, files_then}
use Rattle.nv_board_tests.proofs.mounts.closed_at_once.Goals as goal

if_ok : {T E : Type 0} (r : Result T E) (P Q : T → Type 0) → IfOk r P → ((x : T) → P x → Q x) → IfOk r Q
if_ok (Ok x) P Q holds more = more x holds
if_ok (Err e) P Q holds more = tt

pub returns-in-Ok : goal.returns-in-Ok
returns-in-Ok g c = record {
  rest = λ files have tell.
      let ens = c.in-Ok.ensures in
      let begun = ens.opened.begun in
      let view = c.in-Ok.pass.view in
      let mine = begun.pass_of_board.same_mount in
      let region = c.args.region in
      let log : OpensLog (mount_of view.opened) view.opened.next =
      subst (λ (o : Opened). OpensLog (mount_of o) o.next) (sym mine) (subst (λ n. OpensLog (mount_of c.in-Ok.mount.board.opened) n) (sym begun.next_is) (ens.log tell)) in
      let opens : Opens (mount_of view.opened) files = subst (λ (o : Opened). Opens (mount_of o) files) (sym mine) (ens.files files have) in
      let reg : OpensRegion (mount_of view.opened) region.names = subst (λ (o : Opened). OpensRegion (mount_of o) region.names) (sym mine) (ens.region tell) in
      let same : files_then view files ≡ files = ap (λ (v : PassView). files_then v files) begun.view in
      let sizes : view.opened.sizes ≡ begun_sizes region.geometry.page region.geometry.entries (length region.names) 64 4 = ap (λ (o : Opened). o.sizes) mine ∙ begun.sizes_are in
      if_ok c.close.result _ _ c.close.ensures.rest (λ closed rests.
      subst (λ (s : Sizes). AreAtRest s region.names files (map g.L.Lines.history closed.parts.items) (map g.B.Backing.history closed.stores.items) closed.tail) sizes
      (subst (λ (fs : Files). AreAtRest view.opened.sizes region.names fs (map g.L.Lines.history closed.parts.items) (map g.B.Backing.history closed.stores.items) closed.tail) same (rests files region.names log opens reg ens.empty)));
}
