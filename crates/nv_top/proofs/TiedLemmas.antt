-- What the log that power left says of the writes that a report lists.
use Rattle.std.proofs.Common.{◌≡◌, ◌⊎◌, ℕ, ◌+◌, List, [], ◌∷◌, ◌++◌, length, map, Bool, true, false, if◌then◌else◌, inl, inr, refl, sym, ap, subst, ◌∙◌, arith, append_assoc}
use Rattle.std.specs.List.{AllZip, concat}
use Rattle.std.proofs.lemmas.Bool.{lt-ltb}
use Rattle.std.proofs.lemmas.List.Sorted.{IsPermutation-sym}
use Rattle.nv_plain.specs.Histories.{Answered}
use Rattle.nv_plain.specs.Images.{Image}
use Rattle.nv_plain.specs.Recovered.{recovered}
use Rattle.nv_plain.specs.declared.call.FileCall.{FileCall}
use Rattle.nv_plain.specs.Made.{reply_from}
use Rattle.nv_plain.specs.declared.call.Reply.{Reply}
use Rattle.nv_pmem.specs.Rows.{row_words}
use Rattle.nv_pmem.specs.declared.picker.Pick.{Pick}
use Rattle.nv_bench.specs.Benches.{BenchState}
use Rattle.nv_bench.specs.Holding.{NamedStore}
use Rattle.nv_core.specs.log.EntryImages.{ReadsWhole}
use Rattle.nv_core.specs.state.Core.{Core}
use Rattle.nv_core.specs.state.Passes.{Fault, IsOneOf, is_write, plain_call}
use Rattle.nv_core.specs.steps.Events.{Event, TakesStep}
use Rattle.nv_core.specs.steps.Opening.{opening}
use Rattle.nv_core.specs.steps.Ops.{Place}
use Rattle.nv_core.proofs.invariant.HistoryLaws.{grown}
use Rattle.nv_core.proofs.steps.RunLaws.{after_parts}
use Rattle.nv_table.specs.state.Opened.{Opened, mount_of, state_of}
use Rattle.nv_table.specs.state.Views.{PassView}
use Rattle.nv_mount.specs.WholeRuns.{history_then}
use Rattle.nv_mount.specs.WholeWrites.{WasPlaced, flights_then}
use Rattle.nv_mount.specs.declared.fds.Fd.{Fd}
use Rattle.nv_calls.specs.histories.Faults.{OpenWrite, open_in}
use Rattle.nv_trace.specs.Traced.{Traced}
use Rattle.nv_trace.specs.declared.trace.Descriptor.{Descriptor}
use Rattle.nv_trace.specs.declared.trace_call.TraceCall.{TraceCall}
use Rattle.nv_trace.specs.declared.trace_call.TraceCall.TheVariants.{Pread, Pwrite, Preadv, Pwritev, Fsync}
use Rattle.nv_runner.specs.Faithful.{Basis, IsWrite, descriptors_in, file_call}
use Rattle.nv_runner.specs.FaithfulRuns.{as_fd}
use Rattle.nv_runner.specs.Histories.{AreAtPlaces, PlacedCall, StandsAs}
use Rattle.nv_runner.specs.KeptCalls.{HasWrite, IsKeptWhole}
use Rattle.nv_runner.specs.Reports.{Report}
use Rattle.nv_runner.specs.Sorted.{OpenedCall}
use Rattle.nv_runner.proofs.FaithfulLaws.{calls_on_files}
use Rattle.nv_runner.proofs.histories.HistoryMembers.{of_each, one_mapped, one_moved, one_of_mapped}
use Rattle.nv_runner.proofs.KeptWholeLaws.{fault_of_open, has_write}
use Rattle.nv_top.specs.Behind.{HasLostPowerBehind}
use Rattle.nv_top.specs.Stopped.{IsRunOfReport, left_write}
use Rattle.nv_top.specs.Tied.{AreTied, DrewInRun, FatesAreTied, IsThere}

-- ---- places

-- a placed call stands in the history, at its place
record Stands (fds : List Fd) (history : List Answered) (from : ℕ) (p : PlacedCall) : Type 0 where
  pub earlier : List Answered
  pub later : List Answered
  pub answered : Answered
  pub splits : history ≡ earlier ++ answered ∷ later
  pub at : from + length earlier ≡ p.place
  pub stands : StandsAs fds p answered

stands_later : (fds : List Fd) (first : Answered) (history : List Answered) (from : ℕ) (p : PlacedCall) → Stands fds history (from + 1) p → Stands fds (first ∷ history) from p
stands_later fds first history from p is = record {
  earlier = first ∷ is.earlier;
  later = is.later;
  answered = is.answered;
  splits = ap (λ l. first ∷ l) is.splits;
  at = (let at = is.at in omega (arith, at));
  stands = is.stands;
}

stands_there : (fds : List Fd) (placed : List PlacedCall) (history : List Answered) (from : ℕ) → AreAtPlaces from placed → AllZip (StandsAs fds) placed history → (p : PlacedCall) → IsOneOf placed p → Stands fds history from p
stands_there fds [] history from places each p one = absurd one
stands_there fds (first ∷ placed) [] from places each p one = absurd each
stands_there fds (first ∷ placed) (answered ∷ history) from places each p (inl is) = record {
  earlier = [];
  later = history;
  answered = answered;
  splits = refl;
  at = (let place = places.0 in let same = ap (λ (q : PlacedCall). q.place) is in omega (arith, place, same));
  stands = subst (λ q. StandsAs fds q answered) (sym is) each.0;
}
stands_there fds (first ∷ placed) (answered ∷ history) from places each p (inr more) = stands_later fds answered history from p (stands_there fds placed history (from + 1) places.1 each.1 p more)

-- and what stands in it is a placed call
record IsListed (fds : List Fd) (placed : List PlacedCall) (from : ℕ) (earlier : List Answered) (answered : Answered) : Type 0 where
  pub p : PlacedCall
  pub one : IsOneOf placed p
  pub at : from + length earlier ≡ p.place
  pub stands : StandsAs fds p answered

listed_there : (fds : List Fd) (placed : List PlacedCall) (history : List Answered) (from : ℕ) → AreAtPlaces from placed → AllZip (StandsAs fds) placed history → (earlier later : List Answered) (answered : Answered) → history ≡ earlier ++ answered ∷ later → IsListed fds placed from earlier answered
listed_there fds placed history from places each earlier later answered is = go placed from earlier places (subst (AllZip (StandsAs fds) placed) is each)
  where
    go : (placed : List PlacedCall) (from : ℕ) (earlier : List Answered) → AreAtPlaces from placed → AllZip (StandsAs fds) placed (earlier ++ answered ∷ later) → IsListed fds placed from earlier answered
    go [] from [] places each = absurd each
    go [] from (first ∷ earlier) places each = absurd each
    go (p ∷ placed) from [] places each = record { p = p; one = inl refl; at = (let place = places.0 in omega (arith, place)); stands = each.0 }
    go (p ∷ placed) from (first ∷ earlier) places each =
        let later_one = go placed (from + 1) earlier places.1 each.1 in
        let at = later_one.at in record { p = later_one.p; one = inr later_one.one; at = omega (arith, at); stands = later_one.stands }

-- ---- the run

-- a call that got its place in a run stands in its history behind those that it got it behind
placed_stands : (opened : Opened) (run : List Event) (earlier : List Answered) (answered : Answered) (number : ℕ) → WasPlaced opened run earlier answered number
    → (later : List Answered) × ((state_of opened run).history ≡ earlier ++ answered ∷ later)
placed_stands opened run earlier answered number was =
    let sizes = opened.sizes in
    let start = opening (mount_of opened) in
    let event : Event = record { by = answered.caller; act = TakesStep (Place was.reply) was.found } in
    let middle = was.before ++ event ∷ [] in
    let parts : middle ++ was.after ≡ run = append_assoc was.before (event ∷ []) was.after ∙ sym was.lies in
    let here : (state_of opened middle).history ≡ earlier ++ answered ∷ [] =
    ap (λ (c : Core). c.history) (after_parts sizes start was.before (event ∷ []))
    ∙ ap (λ (call : FileCall). (state_of opened was.before).history ++ record { caller = answered.caller; call = call; reply = reply_from call was.reply } ∷ []) was.asked_is
    ∙ ap (λ (reply : Reply). (state_of opened was.before).history ++ record answered { reply = reply } ∷ []) (sym was.replied)
    ∙ ap (λ l. l ++ answered ∷ []) was.behind in
    let more = grown sizes (state_of opened middle) was.after in (
      more.0,
      ap (λ r. (state_of opened r).history) (sym parts) ∙ ap (λ (c : Core). c.history) (after_parts sizes start middle was.after) ∙ more.1
          ∙ ap (λ l. l ++ more.0) here ∙ append_assoc earlier (answered ∷ []) more.0,
    )

-- ---- the writes

writes_on : (descriptors : List Descriptor) (call : TraceCall) → IsWrite call → is_write (plain_call (file_call descriptors call)) ≡ true
writes_on descriptors (Pread fd at len) write = absurd write
writes_on descriptors (Pwrite fd at bytes) write = lt-ltb 0 (length bytes) write
writes_on descriptors (Preadv fd at lens) write = absurd write
writes_on descriptors (Pwritev fd at parts) write = lt-ltb 0 (length (concat parts)) write
writes_on descriptors (Fsync fd) write = absurd write

-- a write in flight is an open one
open_of_fault : (faults : List Fault) (fault : Fault) → IsOneOf faults fault → is_write fault.call ≡ true → IsOneOf (open_in faults) (record { call = fault.call; first = fault.first })
open_of_fault [] fault one write = absurd one
open_of_fault (other ∷ before) fault (inl is) write =
    subst (λ b. IsOneOf (if b then record { call = other.call; first = other.first } ∷ open_in before else open_in before) (record { call = fault.call; first = fault.first })) (sym (ap (λ (f : Fault). is_write f.call) (sym is) ∙ write))
    (inl (ap (λ (f : Fault). record { call = f.call; first = f.first }) is))
open_of_fault (other ∷ before) fault (inr more) write = by (is_write other.call) (open_of_fault before fault more write)
  where
    by : (b : Bool) → IsOneOf (open_in before) (record { call = fault.call; first = fault.first }) → IsOneOf (if b then record { call = other.call; first = other.first } ∷ open_in before else open_in before) (record { call = fault.call; first = fault.first })
    by true there = inr there
    by false there = there

module _ (basis : Basis) (trace : Traced) (report : Report) (left : List OpenedCall) (last : PassView) (ran : IsRunOfReport basis trace report left last)
    (pick : Pick) (before : List Pick) (many : ℕ) (others : List NamedStore) (bench : BenchState) (behind : HasLostPowerBehind last pick before basis many others bench) where
  abbrev descriptors : List Descriptor
  descriptors = descriptors_in basis.names trace

  abbrev fds : List Fd
  fds = map as_fd descriptors

  abbrev image : Image
  image = row_words behind.lost.power.parts

  -- what an image has of a write, as the sizes of the run say it
  as_basis : (call : FileCall) (number : ℕ) → ReadsWhole last.opened.sizes (plain_call call) number image → HasWrite basis.sizes image number call
  as_basis call number whole = has_write last.opened.sizes basis.sizes call number image ran.opened.page ran.opened.entries whole

  on_file : (p : PlacedCall) (answered : Answered) → StandsAs fds p answered → answered.call ≡ file_call descriptors p.call.call
  on_file p answered stands = stands.call ∙ sym (calls_on_files basis trace last.opened fds ran.opened p.call.call stands.file stands.file_is)

  one_placed : (p : PlacedCall) → IsOneOf report.history p → IsWrite p.call.call → (number : ℕ) × DrewInRun basis trace last p number × IsThere basis.sizes image basis.files number (file_call descriptors p.call.call)
  one_placed p one write =
      let stands = stands_there fds report.history (history_then last) 0 ran.history.places ran.history.each p one in
      let same = on_file p stands.answered stands.stands in
      let made = ap plain_call same in
      let there = behind.whole.placed stands.earlier stands.later stands.answered stands.splits (ap is_write made ∙ writes_on descriptors p.call.call write) in
      let at : length stands.earlier ≡ p.place = let at = stands.at in omega (arith, at) in (
        there.number,
        (stands.earlier, stands.answered, at, same, there.placed),
        elim there.there [
          | inl below ↦ inl below
          | inr group ↦ inr (group.0, as_basis (file_call descriptors p.call.call) there.number (subst (λ c. ReadsWhole last.opened.sizes c there.number image) made group.1))
        ],
      )

  one_kept : (o : OpenedCall) → IsOneOf left o → IsKeptWhole basis trace image basis.files o
  one_kept o one found =
      let write = left_write descriptors o in
      let flown = fault_of_open (flights_then last) write (one_moved (map (left_write descriptors) left) (open_in (flights_then last)) write ran.flights (one_mapped (left_write descriptors) left o one)) in
      let fault = flown.0 in
      let number : o.number ≡ fault.first = ap (λ (w : OpenWrite). w.first) flown.3 in
      let call : plain_call (file_call descriptors o.call.call) ≡ fault.call = ap (λ (w : OpenWrite). w.call) flown.3 in
      let whole = behind.whole.own fault flown.1 flown.2 (subst (IsOneOf (recovered image basis.files).groups) number found) in
      as_basis (file_call descriptors o.call.call) o.number
      (subst (λ n. ReadsWhole last.opened.sizes (plain_call (file_call descriptors o.call.call)) n image) (sym number) (subst (λ (c : FileCall). ReadsWhole last.opened.sizes c fault.first image) (sym call) whole))

  one_committed : (number : ℕ) → IsOneOf (recovered image basis.files).groups number
      → ((p : PlacedCall) × IsOneOf report.history p × DrewInRun basis trace last p number) ⊎ ((o : OpenedCall) × IsOneOf left o × (o.number ≡ number))
  one_committed number one = elim (behind.whole.groups number one).who [
    | inl placed ↦ inl (
        let stands = placed_stands last.opened last.run placed.0 placed.1 number placed.3 in
        let listed = listed_there fds report.history (history_then last) 0 ran.history.places ran.history.each placed.0 stands.0 placed.1 stands.1 in
        let at : length placed.0 ≡ listed.p.place = let at = listed.at in omega (arith, at) in
        (listed.p, listed.one, (placed.0, placed.1, at, on_file listed.p placed.1 listed.stands, placed.3))
        )
    | inr flown ↦ inr (
        let write : OpenWrite = record { call = flown.0.call; first = flown.0.first } in
        let from = one_of_mapped (left_write descriptors) left write
        (one_moved (open_in (flights_then last)) (map (left_write descriptors) left) write (IsPermutation-sym (map (left_write descriptors) left) (open_in (flights_then last)) ran.flights)
        (open_of_fault (flights_then last) flown.0 flown.1 flown.2)) in
        (from.0, from.1, ap (λ (w : OpenWrite). w.first) from.2 ∙ flown.4)
        )
  ]

  tied : AreTied basis trace report left last image
  tied = record {
    placed = of_each (λ p. IsWrite p.call.call → (number : ℕ) × DrewInRun basis trace last p number × IsThere basis.sizes image basis.files number (file_call descriptors p.call.call)) report.history one_placed;
    kept = of_each (IsKeptWhole basis trace image basis.files) left one_kept;
    committed = one_committed;
  }

pub fates_are_tied : FatesAreTied
fates_are_tied basis trace report left last pick before many others bench ran behind = tied basis trace report left last ran pick before many others bench behind
