use Rattle.std.proofs.Common.{◌+◌, ◌/◌, length, arith}
use Rattle.nv_plain.specs.Layouts.{layout_of}
use Rattle.nv_header.proofs.BlankParts.{blank_has_parts, blank_tells, entry_part, part_more}
use Rattle.nv_tests.proofs.given.blank_parts.Goals as goal

pub returns-clause-parts : goal.returns-clause-parts
returns-clause-parts c = blank_has_parts (layout_of c.args.version) c.args.geometry.page c.args.geometry.entries c.loop-lines.parts.items c.loop-lines.invariant.count c.loop-lines.invariant.each

pub returns-clause-blank : goal.returns-clause-blank
returns-clause-blank c = blank_tells (layout_of c.args.version) c.args.geometry.page c.args.geometry.entries c.loop-lines.parts.items c.loop-lines.invariant.each

pub loop-entry-preserved : goal.loop-entry-preserved
loop-entry-preserved c =
    let page = c.args.geometry.page in
    let parts = c.loop-entry.parts.items in
    let more = part_more (layout_of c.args.version) page c.args.geometry.entries parts c.push-in-loop-entry.new.self.items c.in_ok-fused-2.field-0 (1 + page / 64) c.in_ok-push-2.ensures.items
    c.loop-entry.invariant.each (λ within. entry_part (layout_of c.args.version) page (length parts) (omega arith)) c.in_ok-fused-2.ensures in
    record { count = omega (arith, more.0); each = more.1 }

pub loop-lines-preserved : goal.loop-lines-preserved
loop-lines-preserved c =
    let more = part_more (layout_of c.args.version) c.args.geometry.page c.args.geometry.entries c.loop-lines.parts.items c.push-in-loop-lines.new.self.items c.in_ok-fused-3.field-0 _
    c.in_ok-push-3.ensures.items c.loop-lines.invariant.each (λ within. absurd (omega arith)) c.in_ok-fused-3.ensures in
    record { count = omega (arith, more.0); each = more.1 }
