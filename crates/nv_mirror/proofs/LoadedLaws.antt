-- Loaded pages: what a read has of a page that it has loaded is that page after the history.
use Rattle.std.proofs.Common.{◌≡◌, ℕ, ◌+◌, ◌<◌, false, List, inl, sym, subst, ◌∙◌, arith}
use Rattle.nv_plain.specs.declared.call.FileCall.TheVariants.{Sync}
use Rattle.nv_core.specs.content.Content.{RunsKeepContent}
use Rattle.nv_core.specs.content.PagesAfter.{page_now}
use Rattle.nv_core.specs.content.ValidBuffers.{GatheredAt}
use Rattle.nv_core.specs.log.Groups.{Log}
use Rattle.nv_core.specs.steps.Opening.{IsMount}
use Rattle.nv_table.specs.state.Opened.{IsRunOf, mount_of, state_of}
use Rattle.nv_table.specs.state.States.{PassState}
use Rattle.nv_table.specs.state.Views.{pass_of, values_of}
use Rattle.nv_mirror.specs.declared.load.LoadControl.TheVariants.{Loaded}
use Rattle.nv_mirror.specs.declared.load.LoadMachine.{LoadMachine}
use Rattle.nv_mirror.specs.Controls.{MirroredControl}
use Rattle.nv_mirror.specs.LoadAnswers.{HasLoaded}
use Rattle.nv_mirror.specs.Loads.{IsUnderWay}
use Rattle.nv_mirror.proofs.LoadWays.{load_had, load_reads}

pub has_loaded : (m : LoadMachine) (room : List ℕ) (start now : PassState) → m.control ≡ Loaded → IsUnderWay m room start now
    → RunsKeepContent → IsMount (mount_of now.view.opened) → IsRunOf now.view.opened now.view.run → HasLoaded m.page room now
has_loaded m room start now at way content mount run = record {
  had = load_had m room start now at way;
  right = λ files tail log opens.
      let nothing : Log = record { group = λ number. record { call = Sync 0; first = 0; entries = 0 }; calls = λ number. 0 } in
      let right = content (mount_of now.view.opened) files tail nothing (λ number. false) now.view.run mount log opens run in
      let At : MirroredControl → Type 0 = λ c.
      GatheredAt now.view.opened.sizes (page_now now.view.opened.sizes files (state_of now.view.opened now.view.run)) (values_of now.view) c.call (pass_of now.view).pages (pass_of now.view).fetched c.control in
      let less : m.page < m.page + 1 = omega arith in
      sym (load_had m room start now at way) ∙ subst At (load_reads m room start now at way).mirrors (right.buffers.gathered now.view.number) m.page way.0.own (inl less);
}
