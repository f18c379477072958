-- A load's run is one of the trace of its calls, and what was counted is told as it is sorted out; that of an input is the stream of its rounds.
use Rattle.std.proofs.Common.{[], ap, refl, sym, subst}
use Rattle.nv_top.specs.Ran.{HasRunCalls, IsRunInput}
use Rattle.nv_top.specs.Shows.{trace_run}
use Rattle.nv_top.specs.declared.show.Show.{Show}
use Rattle.nv_top.specs.declared.show.Show.TheVariants as shows
use Rattle.nv_top.proofs.RanLemmas.{loaded_on, streamed_on}
use Rattle.nv_top.proofs.ran.run_shown.Goals as goal

pub returns-in-Report-clause-ran : goal.returns-in-Report-clause-ran
returns-in-Report-clause-ran g c =
    let came = c.run_stream-ended.ensures in
    let zero = came.ran.0 in
    let stream = came.ran.1 in
    let back = sym c.in-Report.is in (
      stream.all,
      stream.shown,
      zero,
      streamed_on c.args.show c.args.mount.fds c.args.plan c.args.pass c.args.input.now _ _ _ _ _ _ _ _ c.run_stream-ended.result.ended c.run_stream-ended.result.calls zero stream
          came.at_end (λ last. ap g.I.Source.left (came.unread last)) came.read_failed came.read_kept came.write_failed came.write_kept c.in-Report.is,
      subst (λ (show : Show). HasRunCalls show c.args.mount.fds c.args.plan c.args.pass c.listed.result stream.all stream.shown zero) back
          (record { outcome = stream.outcome; ran = stream.ran; told = c.listed.ensures.told stream.outcome stream.kept; first = (stream.first_shown, stream.over, stream.all_shown) }),
      came.ran.2,
      came.ran.3,
    )

pub returns-in-Summary-clause-ran : goal.returns-in-Summary-clause-ran
returns-in-Summary-clause-ran g c =
    let ran = c.run_generated-ended.ensures.ran in
    let zero = ran.0 in
    let outcome = ran.1 in
    let load = c.in-Summary.load in
    let input = c.args.input.now in
    let back = sym c.in-Summary.is in
    let all = trace_run (shows.Summary load) input.trace in
    let at_hand : IsRunInput (shows.Summary load) input = subst (λ (show : Show). IsRunInput show input) c.in-Summary.is c.requires.input in (
      all,
      [],
      zero,
      loaded_on c.args.show load input _ _ _ _ at_hand.1 c.in-Summary.is,
      subst (λ (show : Show). HasRunCalls show c.args.mount.fds c.args.plan c.args.pass c.counted.result all [] zero) back (record { outcome = outcome; ran = ran.2; told = c.counted.ensures outcome ran.3; first = refl }),
      ran.4,
      ran.5,
    )
