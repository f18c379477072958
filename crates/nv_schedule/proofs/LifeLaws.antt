-- Lives: by the one history, the calls that are listed as open, and what a closed mount tells of its images.
use Rattle.std.proofs.Common.{◌≡◌, List, [], ◌∷◌, map, refl, sym, ap, subst, ◌∙◌}
use Rattle.std.proofs.lemmas.List.Sorted.{IsPermutation-refl, IsPermutation-sym}
use Rattle.nv_plain.specs.Files.{Files}
use Rattle.nv_plain.specs.Histories.{after}
use Rattle.nv_plain.specs.Images.{Image}
use Rattle.nv_plain.specs.Recovered.{recovered}
use Rattle.nv_plain.specs.declared.call.FileCall.{FileCall}
use Rattle.nv_plain.specs.Calls.{files_after}
use Rattle.nv_trace.specs.declared.trace_call.TraceCall.{TraceCall}
use Rattle.nv_plain.specs.Made.{after_calls}
use Rattle.nv_pmem.specs.Rows.{InEachRowImage, RowTells}
use Rattle.nv_pmem.proofs.RowLaws.{row_tells_more}
use Rattle.nv_recover.specs.Standing.{AreStoreImages}
use Rattle.nv_core.specs.crash.CrashImages.{OpensRegion}
use Rattle.nv_core.specs.state.Passes.{IsOneOf, plain_call}
use Rattle.nv_table.specs.state.Opened.{Opened, mount_of}
use Rattle.nv_mount.specs.ClosedAtRest.{files_then}
use Rattle.nv_mount.specs.WholeRuns.{history_then}
use Rattle.nv_mount.specs.WholeWrites.{LeavesWholeWrites, flights_then}
use Rattle.nv_trace.specs.declared.trace_call.TracedCall.{TracedCall}
use Rattle.nv_runner.specs.Faithful.{descriptors_in, file_call, history_of}
use Rattle.nv_runner.specs.FaithfulRuns.{IsMountOf}
use Rattle.nv_runner.specs.Histories.{AreHistory, CallsOnFiles, PlacedCall, placed_calls, placed_in_answer}
use Rattle.nv_runner.specs.Lists.{MadeCall, calls_made}
use Rattle.nv_runner.specs.Lives.{RecoversBehind}
use Rattle.nv_runner.specs.Sorted.{OpenedCall, opened_calls, opened_in_answer}
use Rattle.nv_runner.proofs.FaithfulLaws.{calls_on_files}
use Rattle.nv_runner.proofs.histories.HistoryMembers.{one_left, one_mapped, one_moved, one_of_joined, one_of_mapped}
use Rattle.nv_runner.proofs.histories.HistoryThreads.{threads_are_legal}
use Rattle.nv_runner.proofs.KeptRunLaws.{left_open_are_kept}
use Rattle.nv_runner.proofs.LifeLaws.{falls_nowhere, kept_of, leaves_alike, opened_among, own_lines, placed_among, sorted_by}
use Rattle.nv_schedule.specs.Listed.{all_listed, all_unanswered}
use Rattle.nv_schedule.specs.Lives.{SchedulesLeaveLives}
use Rattle.nv_schedule.proofs.BegunLaws.{begun_within, called_begin}
use Rattle.nv_schedule.proofs.CallerShares.{called_history, own_front}

-- calls leave the files that the plain ones leave which they are made as
after_made : (on_file : TraceCall → FileCall) (calls : List TracedCall) (files : Files) → after_calls (map (λ (call : TracedCall). plain_call (on_file call.call)) calls) files ≡ after_calls (map (λ (call : TracedCall). on_file call.call) calls) files
after_made on_file [] files = refl
after_made on_file (call ∷ calls) files =
    after_made on_file calls (files_after (plain_call (on_file call.call)) files) ∙ ap (after_calls (map (λ (call : TracedCall). on_file call.call) calls)) (leaves_alike (on_file call.call) files)

pub schedules_leave_lives : SchedulesLeaveLives
schedules_leave_lives basis trace mount batch start ended bench armed outcome part_values store_values parts stores faults count tail lines one_round is region scheduled closed =
    let calls = trace.calls in
    let callers = scheduled.called.0 in
    let called = scheduled.called.1 in
    let made = all_listed callers in
    let untold = all_unanswered callers in
    let on_file = file_call (descriptors_in basis.names trace) in
    let there = subst (λ (o : Opened). IsMountOf basis trace o mount.fds) (sym scheduled.opened) is in
    let region_there = subst (λ (o : Opened). OpensRegion (mount_of o) basis.names) (sym scheduled.opened) region in
    let on_files : CallsOnFiles mount.fds on_file = calls_on_files basis trace ended.view.opened mount.fds there in
    let begun = called_begin mount calls batch callers ended (calls_made made) untold called refl refl lines in
    let within : (m : MadeCall) → IsOneOf made m → IsOneOf calls m.call =
    λ m one. begun_within calls (calls_made made) untold begun.first m.call (one_left (calls_made made) untold m.call (one_mapped (λ (m : MadeCall). m.call) made m one)) in
    let own = own_front (calls_made made) untold begun.own_lines in
    let sorted = sorted_by (λ (p : PlacedCall). p.place) (placed_calls made) in
    let history = sorted.0 in
    let are : AreHistory mount.fds history (history_then ended.view) =
    called_history mount calls batch callers ended count made history called closed.history refl lines one_round sorted.1 (falls_nowhere (λ (p : PlacedCall). p.place) history sorted.2) in
    let legal = threads_are_legal mount.fds on_file history (history_then ended.view) basis.files on_files are (closed.history.legal basis.files ended.view.opened.next there.log there.files) in
    let files : files_then ended.view basis.files ≡ after (history_of (descriptors_in basis.names trace) history) basis.files = sym legal.2 in
    let left = opened_calls made in
    let moved = called.left_open left (IsPermutation-refl left) in
    let each : (image : Image) (bytes : Files) → LeavesWholeWrites ended.view basis.files basis.names image bytes → RecoversBehind basis trace history image bytes =
    λ image bytes whole.
    let log = recovered image bytes in
    let kept = kept_of mount.fds on_file on_files log.first log.groups left in
    record {
      readable = whole.header.readable;
      page_is = whole.header.page_is ∙ sym there.page;
      entries_is = whole.header.entries_is ∙ sym there.entries;
      names_are = whole.header.names_are;
      fits = whole.fits;
      kept = kept.calls;
      of_trace = λ call one.
          (let found = one_of_mapped (λ (o : OpenedCall). o.call) left call (kept.among call one) in
          let from = one_of_joined (λ (m : MadeCall). opened_in_answer m.call m.answer) made found.0 found.1 in
          subst (IsOneOf calls) (sym (opened_among from.0.call from.0.answer found.0 from.2) ∙ found.2) (within from.0 from.1));
      own_lines = own_lines made history kept.calls own sorted.1 kept.few;
      files =
          left_open_are_kept mount.fds left (flights_then ended.view) (files_then ended.view basis.files) image bytes moved whole.flights
          ∙ ap (λ (writes : List FileCall). after_calls writes (files_then ended.view basis.files)) (sym kept.are)
          ∙ after_made on_file kept.calls (files_then ended.view basis.files) ∙ ap (λ (files : Files). after_calls (map (λ (call : TracedCall). on_file call.call) kept.calls) files) files;
    } in
    record {
      history = history;
      is = record {
        legal = legal.1;
        of_trace = λ p one.
            (let from = one_of_joined (λ (m : MadeCall). placed_in_answer m.call m.answer) made p (one_moved history (placed_calls made) p (IsPermutation-sym (placed_calls made) history sorted.1) one) in
            subst (IsOneOf calls) (sym (placed_among from.0.call from.0.answer p from.2)) (within from.0 from.1));
        in_order = are.in_order;
      };
      images =
          row_tells_more parts (InEachRowImage (λ image. RowTells stores (λ held. (bytes : Files) → AreStoreImages held bytes → LeavesWholeWrites ended.view basis.files basis.names image bytes)))
          (InEachRowImage (λ image. RowTells stores (λ held. (bytes : Files) → AreStoreImages held bytes → RecoversBehind basis trace history image bytes)))
          (λ states every image is_image.
          row_tells_more stores (λ held. (bytes : Files) → AreStoreImages held bytes → LeavesWholeWrites ended.view basis.files basis.names image bytes) (λ held. (bytes : Files) → AreStoreImages held bytes → RecoversBehind basis trace history image bytes)
          (λ held stand bytes are_bytes. each image bytes (stand bytes are_bytes)) (every image is_image))
          (closed.crash basis.files basis.names there.log there.files region_there);
    }
