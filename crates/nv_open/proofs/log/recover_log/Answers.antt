use Rattle.std.proofs.Common.{Err, map, refl, sym, ap, ◌∙◌}
use Rattle.nv_plain.specs.Layouts.{layout_of}
use Rattle.nv_recover.specs.Changes.{devices_of}
use Rattle.nv_open.proofs.HeadLaws.{error_is}
use Rattle.nv_open.proofs.LineCounts.{same_lines}
use Rattle.nv_open.proofs.LogLaws.{files_held, can_be_read, recovered_told, refused_by_log, unwritten_log, unwritten_unless_good, as_many}
use Rattle.nv_header.specs.Needs.{header_lines_in}
use Rattle.nv_open.proofs.Looks.{head_needs}
use Rattle.nv_open.proofs.Stands.{stood, whole_now}
use Rattle.nv_open.proofs.log.recover_log.Goals as goal

pub recover-requires-clause-head : goal.recover-requires-clause-head
recover-requires-clause-head g c =
    head_needs (map g.L.Lines.history c.args.parts.items) (header_lines_in (map g.L.Lines.room c.args.parts.items)) c.args.head c.requires.head

pub recover-requires-clause-parts : goal.recover-requires-clause-parts
recover-requires-clause-parts g c =
    c.needed_lines_make_parts.ensures (layout_of c.args.head.version) c.args.head.geometry.page c.args.head.geometry.entries (map g.L.Lines.room c.args.parts.items) c.requires.lines c.requires.spare

pub returns-in-Ok-clause-recovered : goal.returns-in-Ok-clause-recovered
returns-in-Ok-clause-recovered g c =
    let done = c.in-Ok.done in
    recovered_told g.L.Lines.history g.L.Lines.room g.met.L.Lines.told_lines c.args.parts.items c.args.head c.requires.lines c.requires.head
    done.0.geometry.page done.0.geometry.entries done.0.names done.0.next done.1
    (ap (λ geometry. geometry.page) c.in-Ok.ensures.geometry) (ap (λ geometry. geometry.entries) c.in-Ok.ensures.geometry) c.in-Ok.ensures.names c.in-Ok.ensures.next c.in-Ok.ensures.found

pub returns-in-Ok-clause-files : goal.returns-in-Ok-clause-files
returns-in-Ok-clause-files g c was are tell =
    files_held (devices_of g.L.Lines.history g.B.Backing.history c.args.parts.items c.args.stores.now.items) (devices_of g.L.Lines.history g.B.Backing.history c.in-Ok.done.0.parts.items c.recover.new.stores.items) was
    c.images_stand_for_files.ensures.files c.rows_of_stores_have_states.ensures.some c.recoveries_give_the_same_files.ensures.tell are tell c.in-Ok.ensures.kept.moments c.in-Ok.ensures.files
    (can_be_read g.L.Lines.history g.L.Lines.room g.met.L.Lines.told_lines c.args.parts.items c.args.head c.requires.lines c.requires.head)

pub returns-in-Ok-clause-count : goal.returns-in-Ok-clause-count
returns-in-Ok-clause-count g c = as_many g.B.Backing.device c.args.stores.now.items c.recover.new.stores.items c.recover.ensures.kept.stores

pub returns-in-Err-clause-refused : goal.returns-in-Err-clause-refused
returns-in-Err-clause-refused g c why is =
    refused_by_log g.L.Lines.history g.L.Lines.room g.met.L.Lines.told_lines c.args.parts.items c.args.head c.requires.lines c.requires.head c.in-Err.error why (sym c.into.ensures ∙ error_is (Err c.into.result) _ _ refl is)
    (λ number same. c.in-Err.ensures.bad number (ap Err same))

pub returns-in-Err-clause-stores_kept : goal.returns-in-Err-clause-stores_kept
returns-in-Err-clause-stores_kept g c why is =
    unwritten_log (devices_of g.L.Lines.history g.B.Backing.history c.args.parts.items c.args.stores.now.items) (devices_of g.L.Lines.history g.B.Backing.history c.in-Err.parts.items c.recover.new.stores.items)
    c.in-Err.error why c.images_stand_for_files.ensures.good (sym c.into.ensures ∙ error_is (Err c.into.result) _ _ refl is) (λ number same. c.in-Err.ensures.bad number (ap Err same)) c.in-Err.ensures.kept.unfit

pub returns-in-Err-clause-count : goal.returns-in-Err-clause-count
returns-in-Err-clause-count g c = as_many g.B.Backing.device c.args.stores.now.items c.recover.new.stores.items c.recover.ensures.kept.stores

pub returns-in-Ok-clause-lines : goal.returns-in-Ok-clause-lines
returns-in-Ok-clause-lines g c = same_lines g.L.Lines.history g.L.Lines.room g.met.L.Lines.told_lines c.args.parts.items c.in-Ok.done.0.parts.items c.in-Ok.ensures.kept.lines

pub returns-in-Err-clause-lines : goal.returns-in-Err-clause-lines
returns-in-Err-clause-lines g c = same_lines g.L.Lines.history g.L.Lines.room g.met.L.Lines.told_lines c.args.parts.items c.in-Err.parts.items c.in-Err.ensures.kept.lines

pub returns-in-Err-clause-unfit : goal.returns-in-Err-clause-unfit
returns-in-Err-clause-unfit g c =
    unwritten_unless_good g.L.Lines.history g.L.Lines.room g.met.L.Lines.told_lines c.args.parts.items c.args.head c.requires.lines c.requires.head
    (devices_of g.L.Lines.history g.B.Backing.history c.args.parts.items c.args.stores.now.items) (devices_of g.L.Lines.history g.B.Backing.history c.in-Err.parts.items c.recover.new.stores.items)
    refl c.in-Err.ensures.kept.unfit

pub returns-in-Err-clause-standing : goal.returns-in-Err-clause-standing
returns-in-Err-clause-standing g c told was told_are was_are =
    let history = g.L.Lines.history in
    let held = g.B.Backing.history in
    stood (devices_of history held c.args.parts.items c.args.stores.now.items) (devices_of history held c.in-Err.parts.items c.recover.new.stores.items) told was
    c.recoveries_give_the_same_files.ensures.tell c.rows_have_states.ensures.some c.rows_of_stores_have_states.ensures.some c.in-Err.ensures.kept.moments told_are was_are
    (whole_now held g.met.B.Backing.told_whole c.recover.new.stores.items)
