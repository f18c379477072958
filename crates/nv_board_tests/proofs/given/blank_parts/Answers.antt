use Rattle.std.proofs.Common.{◌+◌, ◌/◌, length, arith}
use Rattle.nv_plain.specs.Layouts.{mount_layout}
use Rattle.nv_header.proofs.BlankParts.{blank_has_parts, blank_tells, entry_part, part_more}
use Rattle.nv_board_tests.proofs.given.blank_parts.Goals as goal

pub returns-clause-parts : goal.returns-clause-parts
returns-clause-parts c =
    blank_has_parts mount_layout c.args.geometry.page c.args.geometry.entries c.loop-entry.parts.items (omega (arith, c.loop-entry.invariant.count)) c.loop-entry.invariant.each

pub returns-clause-blank : goal.returns-clause-blank
returns-clause-blank c = blank_tells mount_layout c.args.geometry.page c.args.geometry.entries c.loop-entry.parts.items c.loop-entry.invariant.each

pub loop-entry-preserved : goal.loop-entry-preserved
loop-entry-preserved c =
    let page = c.args.geometry.page in
    let parts = c.loop-entry.parts.items in
    let more = part_more mount_layout page c.args.geometry.entries parts c.push-in-loop-entry.new.self.items c.in_ok-fused.field-0 (1 + page / 64) c.in_ok-push-2.ensures.items
    c.loop-entry.invariant.each (λ within. entry_part mount_layout page (length parts) (omega arith)) c.in_ok-fused.ensures in
    record { count = omega (arith, more.0); each = more.1 }
