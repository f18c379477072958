-- Each seat has had one shift, and all are taken in.
use Rattle.std.proofs.Common.{◌≡◌, ℕ, ◌<◌, List, ◌++◌, length, map, take, drop, sym, ap, subst, ◌∙◌, arith}
use Rattle.std.specs.Prelude.{reverse, slice_index_or}
use Rattle.nv_table.specs.passes.Seats.{past_of}
use Rattle.nv_table.specs.state.Views.{Past}
use Rattle.nv_mount.specs.Mounts.{MountState}
use Rattle.nv_runner.proofs.PassLaws.{still_on}
use Rattle.nv_runner.proofs.ServedLaws.{written}
use Rattle.nv_session.specs.Works.{HasDone, SeatState}
use Rattle.nv_session.proofs.WorkLaws.{HaveServed, have_served, works_of}
use Rattle.nv_session.proofs.hiring.do_all.Goals as goal

pub returns-in-Err-clause-still : goal.returns-in-Err-clause-still
returns-in-Err-clause-still g c = still_on c.args.zero.now c.hire.new.zero c.take_in_all.new.zero c.hire.ensures.still c.take_in_all.ensures.still

pub returns-clause-still : goal.returns-clause-still
returns-clause-still g c = still_on c.args.zero.now c.hire.new.zero c.take_in_all-2.new.zero c.hire.ensures.still c.take_in_all-2.ensures.still

pub returns-clause-worked : goal.returns-clause-worked
returns-clause-worked g c =
    let S = SeatState g.row.W.Denot in
    let past : S → Past = λ s. past_of s.session.view in
    let does = g.W.Work.does in
    let mount : MountState = c.args.mount.now in
    let old : List S = c.hire.new.seats.items in
    let new : List S = c.serve_all.new.seats in
    let ended = c.args.zero.now.view.ended in
    let value : c.as_mut_slice.result.now ≡ old = c.as_mut_slice.ensures.value in
    let count : length new ≡ length old = c.serve_all.ensures.count ∙ ap length value in
    let did : (i : ℕ) (d : S) → i < length old → HasDone does mount (slice_index_or old i d) (slice_index_or new i d) =
    subst (λ (m : MountState). (i : ℕ) (d : S) → i < length old → HasDone does m (slice_index_or old i d) (slice_index_or new i d)) (sym c.requires.named)
    (subst (λ (l : List S). (i : ℕ) (d : S) → i < length l → HasDone does g.M.Mounted.mount (slice_index_or l i d) (slice_index_or new i d)) value c.serve_all.ensures.each) in
    let served : HaveServed does mount ended old new = have_served does mount ended old new count did c.hire.ensures.new in
    let taken : List S = take c.hire.new.seats.len (new ++ drop (length new) old) in
    let there : taken ≡ new = written c.hire.new.seats.len old new count (omega arith) in
    record {
      shifts = served.shifts;
      each = served.each;
      works_are = sym c.hire.ensures.works ∙ ap (λ l. l ++ reverse (works_of old)) c.in-Ok.ensures.all ∙ ap reverse (sym served.befores);
      done_are = c.take_in_all-2.ensures.works ∙ ap (λ l. l ++ reverse (works_of taken)) c.in-Ok.ensures.all ∙ ap (λ l. reverse (works_of l)) there ∙ ap reverse (sym served.afters);
      ended = c.take_in_all-2.ensures.ended ∙ ap (λ l. map past l ++ c.hire.new.zero.view.ended) there ∙ ap (λ l. l ++ c.hire.new.zero.view.ended) (sym served.lasts) ∙ ap (λ l. map (λ s. past_of s.last.view) served.shifts ++ l) c.hire.ensures.ended;
    }
