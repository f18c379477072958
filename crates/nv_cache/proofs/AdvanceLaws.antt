-- Advances: a step of a search as a whole.
use Rattle.std.proofs.Common.{◌≡◌, ℕ, ◌<◌, Bool, sym, ap, subst, ◌∙◌}
use Rattle.std.specs.Prelude.{None}
use Rattle.nv_core.specs.invariant.InvariantLaws.{RunsAreSound}
use Rattle.nv_core.specs.state.Values.{lacks_buffer}
use Rattle.nv_core.specs.state.Words.{PAGE}
use Rattle.nv_core.specs.steps.Frames.{AgreeOn}
use Rattle.nv_core.specs.steps.Opening.{IsMount}
use Rattle.nv_table.specs.state.Opened.{Opened, mount_of}
use Rattle.nv_table.specs.state.States.{PassState}
use Rattle.nv_table.specs.state.Views.{PassView, pass_of, values_of}
use Rattle.nv_table.specs.steps.StepContracts.{Postcondition}
use Rattle.nv_op.specs.Ops.{core_op_of}
use Rattle.nv_mirror.specs.Controls.{MirroredControl}
use Rattle.nv_mirror.specs.PassSteps.{IsBetweenSteps}
use Rattle.nv_cache.specs.declared.search.SearchMachine.{SearchMachine}
use Rattle.nv_cache.specs.Searches.{HasAdvanced, HasMoved, HasSearchedAt, IsOpen, IsUnderWay, Keeps, buffers_among, search_after, search_measure, search_op, search_owned_at, values_moved_at}
use Rattle.nv_cache.proofs.BufferLaws.{moved_count, same_count}
use Rattle.nv_cache.proofs.SearchLaws.{between_altered, lacks_so, moves, same_but, search_on, opened, taken}
use Rattle.nv_cache.proofs.SearchMeasures.{search_less}
use Rattle.nv_cache.proofs.TryLaws.{searched_on}

module _ (m next : SearchMachine) (start pass before new : PassState) (found : ℕ) (lacks : Bool) (runs : IsOpen m.control) (way : IsUnderWay m start pass) (robbed : HasMoved m lacks pass before)
    (step : Postcondition before None (core_op_of before.view (search_op m)) found new) (is : next ≡ search_after pass.view.opened.sizes m found lacks) where
  between : IsBetweenSteps pass before
  between = between_altered (values_moved_at m m.control) pass before robbed.altered

  -- the machine after it, by what the page keeps
  next_is : next ≡ search_after pass.view.opened.sizes m found (lacks_buffer (values_of new.view (PAGE m.page)))
  next_is = is ∙ lacks_so m start pass before new found way.fits between m.control runs way.fits.stands way.called step lacks robbed.told pass.view.opened.sizes

  owns : (pass_of pass.view).owned ≡ search_owned_at m m.control
  owns = ap (λ (c : MirroredControl). c.owned) way.called.mirrors

  keeps : Keeps m pass new
  keeps = record {
    pass = same_but m start pass before new found way.fits between m.control runs way.fits.stands way.called step;
    cells = kept;
    buffers = same_count (pass_of pass.view).owned (values_of new.view) (values_moved_at m m.control (values_of pass.view)) kept
        ∙ subst (λ cells. buffers_among cells (values_moved_at m m.control (values_of pass.view)) ≡ buffers_among cells (values_of pass.view)) (sym owns)
        (moved_count pass.view.opened.sizes m m.control (values_of pass.view) way.fits way.fits.stands way.knows);
  }
    where
      kept : AgreeOn (pass_of pass.view) (values_of new.view) (values_moved_at m m.control (values_of pass.view))
      kept = moves m start pass before new found way.fits between m.control runs way.fits.stands way.called step

  pub advanced : RunsAreSound → IsMount (mount_of pass.view.opened) → HasAdvanced m next pass new
  advanced sound mount = record {
    one = record { found = found; taken = taken m start pass before new found way.fits between m.control runs way.fits.stands way.called step; next = next_is };
    keeps = keeps;
    falls = subst (λ (n : SearchMachine). search_measure pass.view.opened.sizes n < search_measure pass.view.opened.sizes m) (sym is)
        (search_less pass.view.opened.sizes m m.control found lacks way.fits.stands runs);
    way = λ start way.
        subst (λ (n : SearchMachine). IsUnderWay n start new) (sym next_is)
        (search_on m start pass before new found way.fits between sound (subst (λ (v : PassView). IsMount (mount_of v.opened)) (sym between.view) mount) m.control runs way.fits.stands way.knows way.called step);
    tries = λ began so.
        subst (λ (n : SearchMachine). HasSearchedAt new.view.opened.sizes n n.control began new) (sym next_is)
        (subst (λ (o : Opened). HasSearchedAt o.sizes after after.control began new) (sym (opened m start pass before new found way.fits between m.control runs way.fits.stands way.called step))
        (searched_on pass.view.opened.sizes m began pass new found way.fits m.control runs way.fits.stands way.knows keeps.cells owns
        (taken m start pass before new found way.fits between m.control runs way.fits.stands way.called step) so));
  }
    where
      after : SearchMachine
      after = search_after pass.view.opened.sizes m found (lacks_buffer (values_of new.view (PAGE m.page)))
