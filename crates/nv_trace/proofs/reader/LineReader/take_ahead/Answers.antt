use Rattle.std.proofs.Common.{◌≡◌, ◌+◌, ◌-◌, ◌<◌, ◌≤◌, ◌++◌, length, take, drop, ap, sym, subst, ◌∙◌, arith}
use Rattle.std.proofs.lemmas.List.{drop-drop, length-take, length-take-le, take-append-drop, take-take, take_rest}
use Rattle.nv_trace.specs.Pending.{HasEndedRound, HasTaken, HasTakenLines}
use Rattle.nv_trace.specs.NextRound.{ahead}
use Rattle.nv_trace.specs.Reading.{largest_input}
use Rattle.nv_trace.proofs.reader.LineReader.take_ahead.Goals as goal

pub returns-in-Some-clause-taken : goal.returns-in-Some-clause-taken
returns-in-Some-clause-taken c =
    let reader = c.args.self.now in
    let bytes = c.deref.result.now in
    let slice = take (length (take reader.end bytes) - reader.start) (drop reader.start (take reader.end bytes)) in
    let sliced : slice ≡ ahead reader = take_rest (take reader.end bytes) reader.start ∙ ap (λ items. drop reader.start (take reader.end items)) c.deref.ensures.value in
    let within = c.min-within.result in
    let count = c.in-Some.count in
    let taken = subst (HasTakenLines c.args.trace.now reader.pending (take within slice) c.take_lines.new.trace c.take_lines.new.self) c.in-Some.is c.in_ok-count.ensures.taken in
    let fits : (count ≤ within) × (count ≤ length slice) = (omega (arith, taken.0, length-take within slice), omega (arith, taken.0, length-take within slice)) in
    let front : take count (take within slice) ≡ take count (ahead reader) = take-take count within slice fits.0 ∙ ap (take count) sliced in
    let few : count ≤ length (ahead reader) = subst (λ bytes. count ≤ length bytes) sliced fits.1 in
    let size : length (take count (ahead reader)) ≡ count = length-take-le count (ahead reader) few in (
      take count (ahead reader),
      sym (take-append-drop count (ahead reader)) ∙ ap (λ rest. take count (ahead reader) ++ rest) (drop-drop count reader.start (take reader.end reader.buffer.items)),
      subst (λ front. HasEndedRound c.args.trace.now reader.pending front c.take_lines.new.trace c.take_lines.new.self) front taken.1,
      ap (λ n. reader.taken + n) (sym size),
    )

pub returns-in-None-clause-refused : goal.returns-in-None-clause-refused
returns-in-None-clause-refused c =
    let reader = c.args.self.now in
    let bytes = c.deref.result.now in
    let slice = take (length (take reader.end bytes) - reader.start) (drop reader.start (take reader.end bytes)) in
    let sliced : slice ≡ ahead reader = take_rest (take reader.end bytes) reader.start ∙ ap (λ items. drop reader.start (take reader.end items)) c.deref.ensures.value in
    let within = c.min-within.result in
    let room : within ≡ largest_input - reader.taken = omega (arith, c.min-within.ensures, c.if-within-ahead.true) in
    let taken = subst (HasTakenLines c.args.trace.now reader.pending (take within slice) c.take_lines.new.trace c.take_lines.new.self) c.in-None.is c.in_ok-count.ensures.taken in
    let past : within < length (ahead reader) = subst (λ bytes. within < length bytes) sliced c.if-within-ahead.true in (
      omega (arith, room, past, c.requires.taken),
      c.take_lines.new.self,
      subst (λ front. HasTaken c.args.trace.now reader.pending front c.take_lines.new.trace c.take_lines.new.self) (ap (λ n. take n slice) room ∙ ap (take (largest_input - reader.taken)) sliced) taken,
    )
