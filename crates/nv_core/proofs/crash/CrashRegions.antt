-- The region in images: what is read of its header is read of one part, and each event keeps it.
use Rattle.std.proofs.Common.{◌≡◌, ℕ, zero, suc, ◌+◌, ◌==◌, ◌^◌, ◌≤◌, Bool, true, false, List, [], length, Option, Some, None, inl, inr, refl, sym, ap, subst, ◌∙◌, arith, le_trans}
use Rattle.std.specs.Prelude.{option_map}
use Rattle.nv_plain.specs.Images.{Image, PartImage}
use Rattle.nv_plain.specs.Layouts.{mount_layout}
use Rattle.nv_plain.specs.Files.{Files}
use Rattle.nv_plain.specs.declared.call.FileCall.{FileCall}
use Rattle.nv_pmem.specs.Part.{Part, part_word}
use Rattle.nv_pmem.specs.Images.{IsPartImage}
use Rattle.nv_pmem.specs.Steps.{after_line_step}
use Rattle.nv_header.specs.Heads.{first_names}
use Rattle.nv_header.specs.HeaderSteps.{tail_steps}
use Rattle.nv_header.specs.Regions.{ReadsAs}
use Rattle.nv_core.specs.state.Words.{Sizes, HEAD, TAIL, HEADER, ENTRY}
use Rattle.nv_core.specs.state.Values.{Value, Bare, APart, AStore, ABuffer, Job, PartStep, CallEnding, Made, Failed, called, has_come, part_after}
use Rattle.nv_core.specs.state.Cleaner.{Batch, MoveHeaderTail, AdvanceTail, MoveTail}
use Rattle.nv_core.specs.state.Passes.{Control, TakePage, LoadStop, Cleaning, Pass, page_count, first_page, plain_call}
use Rattle.nv_core.specs.steps.Ops.{Op, ByCleaner}
use Rattle.nv_core.specs.steps.PassSteps.{begun}
use Rattle.nv_core.specs.steps.Order.{Values}
use Rattle.nv_core.specs.state.Core.{Core, with_value, after_step, after_begin, after_work, values_stepped, values_worked}
use Rattle.nv_core.specs.steps.Events.{Act, BeginsCall, TakesStep, CallsDevice, Event, after_act, after_event, EventEnabled}
use Rattle.nv_core.proofs.steps.ByKind.{FoundEnabledByKind, ActEnabledByKind, act_kind}
use Rattle.nv_core.specs.log.Groups.{Log, log_acted, log_after}
use Rattle.nv_core.specs.log.Written.{IsPart}
use Rattle.nv_core.specs.log.Tails.{Tails, still, tails_moved, tails_worked, tails_acted, tails_after}
use Rattle.nv_core.specs.log.HeaderStays.{HeaderStays}
use Rattle.nv_core.specs.log.Retiring.{TailsAt}
use Rattle.nv_core.specs.crash.PersistentTail.{PersistentTail}
use Rattle.nv_core.specs.log.EntryImages.{IsImageOfValue, IsRegionImage, InEachImageOf}
use Rattle.nv_core.specs.log.LogContent.{LogContent}
use Rattle.nv_core.specs.crash.CrashImages.{HasRegion, EventsKeepRegion}
use Rattle.nv_core.specs.invariant.Sound.{Sound}
use Rattle.nv_core.proofs.state.Changes.{by_word, number_here, word_here}
use Rattle.nv_core.proofs.state.Choices.{if_both}
use Rattle.nv_core.specs.log.LogLaws.{LogLaws}
use Rattle.nv_core.proofs.log.KeepsHeader.{off_tail, header_stepped, header_step, header_read, header_work}
use Rattle.nv_core.proofs.log.ImageLaws.{part_one}
use Rattle.nv_core.proofs.steps.CleanerOps.{tending}
use Rattle.nv_core.proofs.steps.WordLaws.{untouched, touches}
use Rattle.nv_core.proofs.crash.CrashHeader.{header_tells, reads_but_tail}

-- what is read of the header is read of part 0, word by word
pub reads_alike : (sizes : Sizes) (names : List (List ℕ)) (tail : ℕ) (image other : Image) → ((line word : ℕ) → image 0 line word ≡ other 0 line word)
    → ReadsAs mount_layout sizes.page sizes.entries names tail other → ReadsAs mount_layout sizes.page sizes.entries names tail image
unfolding first_names
reads_alike sizes names tail image other same reads =
    let alone : ReadsAs mount_layout sizes.page sizes.entries names tail (λ part. other 0) = record {
      readable = record {
        long_enough = reads.readable.long_enough;
        fields = reads.readable.fields;
        names = λ i less. let good = reads.readable.names i less in record { whole = good.whole; new = good.new };
      };
      page_is = reads.page_is;
      entries_is = reads.entries_is;
      names_are = reads.names_are;
      tail_is = reads.tail_is;
    } in
    let To : PartImage → Type 0 = λ header. ReadsAs mount_layout sizes.page sizes.entries names tail (λ part. header) in
    let path : other 0 ≡ image 0 = λ at line word. sym (same line word) at in
    let moved : ReadsAs mount_layout sizes.page sizes.entries names tail (λ part. image 0) = subst To path alone in
    record {
      readable = record {
        long_enough = moved.readable.long_enough;
        fields = moved.readable.fields;
        names = λ i less. let good = moved.readable.names i less in record { whole = good.whole; new = good.new };
      };
      page_is = moved.page_is;
      entries_is = moved.entries_is;
      names_are = moved.names_are;
      tail_is = moved.tail_is;
    }

-- ---- an image of a state, part by part

abbrev pub told_or : Option Part → Part
told_or (Some part) = part
told_or None = []

abbrev pub told_part : Value → Part
told_part (APart device spares) = told_or device.told
told_part value = []

pub told_is : (value : Value) (part : Part) → IsPart value part → told_part value ≡ part
told_is (APart device spares) part is = ap told_or is
told_is Bare part is = absurd is
told_is (AStore device) part is = absurd is
told_is (ABuffer buffer) part is = absurd is

-- a header's part, and what is left of each entry's by some rule
abbrev pub joined : (Part → PartImage) → (header : PartImage) → Values → Image
joined leave header values zero = header
joined leave header values (suc slot) = leave (told_part (values (ENTRY slot)))

-- and of the header's too
abbrev pub region_of : (Part → PartImage) → Values → Image
region_of leave values = joined leave (leave (told_part (values HEADER))) values

pub left_is : (leave : Part → PartImage) → ((part : Part) → IsPartImage part (leave part)) → (value : Value) → IsImageOfValue value (leave (told_part value))
left_is leave each value part is = subst (λ p. IsPartImage part (leave p)) (sym (told_is value part is)) (each part)

entry_left : (leave : Part → PartImage) → ((part : Part) → IsPartImage part (leave part)) → (header : PartImage) (values : Values) (slot : ℕ) → IsImageOfValue (values (ENTRY slot)) (joined leave header values (1 + slot))
entry_left leave each header values slot = let next : suc slot ≡ 1 + slot = omega arith in subst (λ i. IsImageOfValue (values (ENTRY slot)) (joined leave header values i)) next (left_is leave each (values (ENTRY slot)))

pub region_is : (sizes : Sizes) (leave : Part → PartImage) → ((part : Part) → IsPartImage part (leave part)) → (values : Values) → IsRegionImage sizes values (region_of leave values)
region_is sizes leave each values = record { header = left_is leave each (values HEADER); entries = λ slot less. entry_left leave each (leave (told_part (values HEADER))) values slot }

-- ---- the header after an event

-- a part that told does after a device call, however that ended
called_tells : (job : Job) (how : CallEnding) (value : Value) (part : Part) → IsPart value part → (now : Part) × IsPart (called job how value) now
called_tells (PartStep step spares) how (APart device before) part is = go (has_come how)
  where
    go : (came : Bool) → (now : Part) × (part_after (PartStep step spares) came device.told ≡ Some now)
    go true = (after_line_step step part, ap (option_map (after_line_step step)) is)
    go false = (part, is)
called_tells job how (APart device before) part is = (part, is)
called_tells job how Bare part is = absurd is
called_tells job how (AStore device) part is = absurd is
called_tells job how (ABuffer buffer) part is = absurd is

-- the header stays as it is, seen from where it stands
stays_from_here : LogLaws → (first : Values) (tails : Tails) (values : Values) → HeaderStays first tails values → HeaderStays values tails values
stays_from_here laws first tails values stays = record {
  words = λ was part a b image is line word off.
      let moved = stays.moved part b in
      off_tail laws tails.next tails.calls moved.before moved.quiet image (subst (λ p. IsPartImage p image) moved.is is) line word off
      ∙ sym (off_tail laws tails.next tails.calls moved.before moved.quiet (part_word part) (subst (λ p. IsPartImage p (part_word part)) moved.is (laws.now part)) line word off)
      ∙ ap (λ p. part_word p line word) (part_one (values HEADER) part was b a);
  tail_is = stays.tail_is;
  moved = stays.moved;
  header_lines = λ was part a b. ap length (part_one (values HEADER) part was b a);
  entry_lines = λ slot was part a b. ap length (part_one (values (ENTRY slot)) part was b a);
}

-- ---- each event keeps the region

-- what is proved elsewhere of what isn't durable
abbrev pub PersistentGoesOn : Type 0
PersistentGoesOn =
    (sizes : Sizes) (first : Values) (opened : Files) (names : List (List ℕ)) (tails : Tails) (log : Log) (placed : ℕ → Bool) (core : Core) (event : Event)
    → Sound sizes first core → LogContent sizes first opened tails log placed core → HasRegion sizes names tails log core
    → EventEnabled sizes event core → PersistentTail sizes (tails_after event core tails).next (log_after sizes event core log) (after_event sizes event core)

-- these tails lie between two words
abbrev AreWithin : (low high : ℕ) → Tails → Type 0
AreWithin low high tails = (low ≤ tails.least) × (tails.least ≤ high) × (tails.next ≤ high)

-- TAIL after a step is as it was, or the tail that the header has
pub tail_after : (sizes : Sizes) (by : ℕ) (core : Core) (found : ℕ) (op : Op) → FoundEnabledByKind sizes by core op found → (least : ℕ) → core.words TAIL ≤ least
    → ((batch : Batch) → (core.passes by).control ≡ Cleaning batch AdvanceTail → batch.reached ≤ least) → (after_step sizes by op found core).words TAIL ≤ least
tail_after sizes by core found op may least low retiring = go op may
  where
    same : (op : Op) → FoundEnabledByKind sizes by core op found → touches op TAIL ≡ false → (after_step sizes by op found core).words TAIL ≤ least
    same op may not_so = subst (λ t. t ≤ least) (sym (untouched sizes by core op found may TAIL not_so)) low

    go : (op : Op) → FoundEnabledByKind sizes by core op found → (after_step sizes by op found core).words TAIL ≤ least
    go (ByCleaner (MoveTail tail)) may =
        let at = tending sizes (core.passes by) (MoveTail tail) tt may.may in
        let m = at.made in
        let t = m.1 in
        let r = retiring at.batch (at.control ∙ ap (Cleaning at.batch) m.0) in
        subst (λ t. t ≤ least) (sym (word_here core.words TAIL tail)) (omega (arith, t, r))
    go (ByCleaner cleaner_op) may = same (ByCleaner cleaner_op) may refl
    go op may = same op may refl

-- a call that begins is no cleaner's
abbrev pub IsNoBatch : Control → Type 0
IsNoBatch (Cleaning batch inner) = ⊥
IsNoBatch control = Unit {0}

pub begun_none : (sizes : Sizes) (call : FileCall) (pass : Pass) → IsNoBatch (begun sizes call pass).control
begun_none sizes call pass = if_both IsNoBatch (page_count sizes (plain_call call) == 0) LoadStop (TakePage (first_page sizes (plain_call call))) (λ _. tt) (λ _. tt)

module _ (laws : LogLaws) (sizes : Sizes) (first : Values) (opened : Files) (names : List (List ℕ)) (tails : Tails) (log : Log) (placed : ℕ → Bool) (core : Core)
    (sound : Sound sizes first core) (content : LogContent sizes first opened tails log placed core) (region : HasRegion sizes names tails log core) where
  stays_here : HeaderStays core.values tails core.values
  stays_here = stays_from_here laws first tails core.values content.header

  now_told : (part : Part) × IsPart (core.values HEADER) part
  now_told = header_tells sizes names tails log core region (region_of part_word core.values) (region_is sizes part_word laws.now core.values)

  are_within : AreWithin (core.words TAIL) (core.words HEAD) tails
  are_within = let l = region.low in let o = content.retired.order in let h = content.retired.high in (l, omega (arith, o, h), h)

  -- the tails after a device call
  worked_within : (by : ℕ) (ending : CallEnding) → AreWithin (core.words TAIL) (core.words HEAD) (tails_worked ending (core.passes by).control tails)
  worked_within by ending = go (core.passes by).control refl
    where
      go : (control : Control) → (core.passes by).control ≡ control → AreWithin (core.words TAIL) (core.words HEAD) (tails_worked ending control tails)
      go (Cleaning batch (MoveHeaderTail calls)) at = moved ending
        where
          way : (batch.tail ≡ core.words TAIL) × (batch.tail ≤ batch.reached) × (batch.reached ≤ core.words HEAD)
          way = let is = content.progress.each by batch (MoveHeaderTail calls) at tt in (is.tail, is.low, is.high)

          next : AreWithin (core.words TAIL) (core.words HEAD) (record { least = tails.least; next = batch.reached; calls = calls + 1 })
          next = (are_within.0, are_within.1, way.2)

          moved : (how : CallEnding) → AreWithin (core.words TAIL) (core.words HEAD) (tails_moved how batch.reached (calls + 1) tails)
          moved Made = if_both (AreWithin (core.words TAIL) (core.words HEAD)) (calls + 1 == length (tail_steps batch.reached)) (still batch.reached) (record { least = tails.least; next = batch.reached; calls = calls + 1 })
              (λ _. (let t = way.0 in let l = way.1 in omega (arith, t, l), way.2, way.2)) (λ _. next)
          moved (Failed true faults) = next
          moved how = are_within
      go control at = are_within

  -- a header that has no other tail than these, and else reads as it did
  header_reads : (values : Values) (after : Tails) → HeaderStays core.values after values → AreWithin (core.words TAIL) (core.words HEAD) after → (part : Part) → IsPart (values HEADER) part
      → InEachImageOf sizes values (λ image. ReadsAs mount_layout sizes.page sizes.entries names (image 0 1 0) image)
  header_reads values after stays within part told image is =
      let small : (n : ℕ) → image 0 1 0 ≡ n → n ≤ core.words HEAD → image 0 1 0 ≤ 2 ^ 60 = λ n e high. subst (λ m. m ≤ 2 ^ 60) (sym e) (le_trans high sound.window.small) in
      reads_but_tail image (region_of part_word core.values) (λ line word off. stays.words now_told.0 part now_told.1 told (image 0) (is.header part told) line word off ∙ sym (here line word))
      sizes names (region_of part_word core.values 0 1 0)
      (elim (stays.tail_is part told (image 0) (is.header part told)) [ inl e ↦ small after.least e within.1 | inr e ↦ small after.next e within.2 ])
      (region.header (region_of part_word core.values) (region_is sizes part_word laws.now core.values))
    where
      here : (line word : ℕ) → region_of part_word core.values 0 line word ≡ part_word now_told.0 line word
      here line word = ap (λ p. part_word p line word) (told_is (core.values HEADER) now_told.0 now_told.1)

  -- a region after an event, by its parts
  region_now : (now : Core) (after : Tails) (next : Log) → HeaderStays core.values after now.values → AreWithin (core.words TAIL) (core.words HEAD) after → (part : Part) → IsPart (now.values HEADER) part
      → now.words TAIL ≤ after.least → PersistentTail sizes after.next next now → HasRegion sizes names after next now
  region_now now after next stays within part told low persistent = record {
    header = header_reads now.values after stays within part told;
    files = region.files;
    pages = region.pages;
    low = low;
    persistent = persistent;
  }

  -- after a step, be it the first of a call
  region_step : (by : ℕ) (before : Core) (op : Op) (found : ℕ) (next : Log) → before.values ≡ core.values → before.words TAIL ≡ core.words TAIL
      → ((batch : Batch) → (before.passes by).control ≡ Cleaning batch AdvanceTail → batch.reached ≤ tails.least) → FoundEnabledByKind sizes by before op found
      → PersistentTail sizes tails.next next (after_step sizes by op found before) → HasRegion sizes names tails next (after_step sizes by op found before)
  region_step by before op found next values tail retiring may persistent =
      region_now (after_step sizes by op found before) tails next
      (subst (λ v. HeaderStays core.values tails (values_stepped sizes (before.passes by) op v)) (sym values) (header_step sizes core.values tails (before.passes by) op core.values stays_here))
      are_within now_told.0
      (subst (λ v. IsPart v now_told.0) (sym (header_stepped sizes (before.passes by) op before.values ∙ ap (λ v. v HEADER) values)) now_told.1)
      (tail_after sizes by before found op may tails.least (let l = region.low in omega (arith, tail, l)) retiring)
      persistent

  region_act : (by : ℕ) (act : Act) → ActEnabledByKind sizes by core act → PersistentTail sizes (tails_acted (core.passes by).control act tails).next (log_acted sizes (core.passes by) act log) (after_act sizes by act core)
      → HasRegion sizes names (tails_acted (core.passes by).control act tails) (log_acted sizes (core.passes by) act log) (after_act sizes by act core)
  region_act by (BeginsCall call op found) may persistent =
      region_step by (after_begin sizes by call core) op found (log_acted sizes (core.passes by) (BeginsCall call op found) log) refl refl
      (λ batch at. absurd (subst IsNoBatch (ap (λ (p : Pass). p.control) (sym (number_here core.passes by (begun sizes call (core.passes by)))) ∙ at) (begun_none sizes call (core.passes by)))) may.1 persistent
  region_act by (TakesStep op found) may persistent =
      region_step by core op found (log_acted sizes (core.passes by) (TakesStep op found) log) refl refl
      (λ batch at. let e : TailsAt tails (Cleaning batch AdvanceTail) = subst (TailsAt tails) at (content.retired.at by) in let l = e.0 in omega (arith, l)) may persistent
  region_act by (CallsDevice work) may persistent =
      region_now (after_work sizes by work core) (tails_worked work.ending (core.passes by).control tails) (log_acted sizes (core.passes by) (CallsDevice work) log)
      (header_work laws sizes core.values tails (core.passes by) work core.values stays_here (content.retired.at by) may) (worked_within by work.ending) told.0 told.1
      (worked_within by work.ending).0 persistent
    where
      told : (part : Part) × IsPart (values_worked (core.passes by) work core.values HEADER) part
      told = subst (λ v. (part : Part) × IsPart v part) (sym (header_read (core.passes by).units work.job work.ending (core.passes by).control (with_value core.values work.cell (called work.job work.ending (core.values work.cell)))))
          (by_word (λ w v. (part : Part) × IsPart (core.values w) part → (now : Part) × IsPart v now) core.values work.cell (called work.job work.ending (core.values work.cell))
          (λ was. called_tells work.job work.ending (core.values work.cell) was.0 was.1) (λ w ne was. was) HEADER now_told)

pub events_keep_region : LogLaws → PersistentGoesOn → EventsKeepRegion
events_keep_region laws goes_on sizes first opened names tails log placed core event sound content region may =
    region_act laws sizes first opened names tails log placed core sound content region event.by event.act (act_kind sizes event.by core event.act may.act)
    (goes_on sizes first opened names tails log placed core event sound content region may)
