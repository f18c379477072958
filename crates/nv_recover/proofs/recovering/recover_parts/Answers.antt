use Rattle.std.proofs.Common.{◌≡◌, ◌+◌, List, Err, map, drop, refl, sym, ap, ◌∙◌, subst}
use Rattle.std.proofs.lemmas.Result.{err_from_is_err_and}
use Rattle.nv_plain.specs.Images.{layout_in}
use Rattle.nv_pmem.specs.Rows.{RowTells, row_words}
use Rattle.nv_pmem.specs.Steps as lines
use Rattle.nv_pmem.proofs.ReadLaws.{only_read_more}
use Rattle.nv_pmem.proofs.RowLaws.{row_tells_more}
use Rattle.nv_store.specs.Steps.{StoreHistory}
use Rattle.nv_entry.specs.Checks.{SaysBounds}
use Rattle.nv_recover.specs.Emptying.{CommitsNoneFrom}
use Rattle.nv_recover.specs.Groups.{IsLeastBad}
use Rattle.nv_recover.specs.Recovering.{AreKept}
use Rattle.nv_recover.specs.declared.error.RecoverError.TheVariants.{BadEntry}
use Rattle.nv_recover.proofs.Present.{if_err_any}
use Rattle.nv_recover.proofs.RoomLaws.{slots_some, parts_slots, parts_read, parts_stay, parts_still, lines_same}
use Rattle.nv_recover.proofs.StandLaws.{both_rows, alike_still, stand_on, stand_last, unfit_read, unfit_found}
use Rattle.nv_recover.proofs.recovering.recover_parts.Given.{Over}
use Rattle.nv_recover.proofs.recovering.recover_parts.Goals.{After-empty_log}
use Rattle.nv_recover.proofs.recovering.recover_parts.Goals as goal

pub read_log-requires-clause-lines : goal.read_log-requires-clause-lines
read_log-requires-clause-lines g c =
    slots_some g.L.Lines.room c.args.bounds.now.page c.args.bounds.now.entries c.args.parts.now c.requires.parts

-- ---- the log can't be read

pub returns-in_err-groups-clause-kept : goal.returns-in_err-groups-clause-kept
returns-in_err-groups-clause-kept g c =
    let bounds = c.args.bounds.now in
    let first : List lines.PartHistory = map g.L.Lines.history c.args.parts.now in
    let then : List lines.PartHistory = map g.L.Lines.history c.read_log.new.parts in
    let stores : List StoreHistory = map g.B.Backing.history c.args.stores.now in
    let read = c.read_log.ensures.read in
    record {
      moments =
          stand_on bounds.version bounds.page bounds.entries c.args.names.now bounds.tail first first then stores stores refl read.histories c.requires.names c.requires.quiet
          (alike_still first stores c.requires.synced);
      unfit = unfit_read first then stores read.histories;
      further = ap (drop (1 + bounds.entries)) read.histories;
      lines = lines_same g.L.Lines.room bounds.page bounds.entries c.args.parts.now c.read_log.new.parts read.rooms;
      devices = read.devices;
      stores = refl;
    }

-- ---- its groups aren't written

pub replay-requires-clause-lines : goal.replay-requires-clause-lines
replay-requires-clause-lines g c =
    let page = c.args.bounds.now.page in
    let entries = c.args.bounds.now.entries in
    parts_slots g.L.Lines.room page entries c.read_log.new.parts
    (parts_still g.L.Lines.room page entries c.args.parts.now c.read_log.new.parts c.read_log.ensures.read.rooms c.requires.parts)

pub replay-requires-clause-header : goal.replay-requires-clause-header
replay-requires-clause-header g c =
    let Says : List lines.PartHistory → Type 0 = λ row. RowTells row (λ told. SaysBounds c.args.bounds.now (row_words told)) in
    subst Says (sym c.read_log.ensures.read.histories) c.requires.header

pub returns-in_err-replay-clause-bad : goal.returns-in_err-replay-clause-bad
returns-in_err-replay-clause-bad g c number is =
    let p = err_from_is_err_and c.from_residual-in_err-replay.result c.from_residual-in_err-replay.ensures.1 in
    let same : c.in_err-replay.field-0.0 ≡ BadEntry number = cc (p.1, p.2, is) in
    let Never : List lines.PartHistory → Type 0 = λ row. RowTells row (λ parts. ⊥) in
    row_tells_more (map g.L.Lines.history c.args.parts.now) (λ parts. ⊥) (λ parts. IsLeastBad (layout_in (row_words parts)) (row_words parts) number) (λ parts never. absurd never)
    (subst Never c.read_log.ensures.read.histories (c.replay.ensures.bad number (c.in_err-replay.was ∙ ap Err same)))

pub returns-in_err-replay-clause-only_read : goal.returns-in_err-replay-clause-only_read
returns-in_err-replay-clause-only_read g c =
    if_err_any c.from_residual-in_err-replay.result (λ why other. only_read_more c.read_log.ensures.read c.replay.ensures.read)

pub returns-in_err-replay-clause-kept : goal.returns-in_err-replay-clause-kept
returns-in_err-replay-clause-kept g c =
    let bounds = c.args.bounds.now in
    let first : List lines.PartHistory = map g.L.Lines.history c.args.parts.now in
    let then : List lines.PartHistory = map g.L.Lines.history c.replay.new.parts in
    let old : List StoreHistory = map g.B.Backing.history c.args.stores.now in
    let new : List StoreHistory = map g.B.Backing.history c.replay.new.stores in
    let read = only_read_more c.read_log.ensures.read c.replay.ensures.read in
    record {
      moments =
          stand_on bounds.version bounds.page bounds.entries c.args.names.now bounds.tail first (map g.L.Lines.history c.read_log.new.parts) then old new
          c.read_log.ensures.read.histories c.replay.ensures.read.histories c.requires.names c.requires.quiet c.replay.ensures.moments;
      unfit = unfit_found first old c.in_ok-groups.groups.items (both_rows then new) c.in_ok-groups.ensures.groups;
      further = ap (drop (1 + bounds.entries)) read.histories;
      lines = lines_same g.L.Lines.room bounds.page bounds.entries c.args.parts.now c.replay.new.parts read.rooms;
      devices = read.devices;
      stores = c.replay.ensures.devices;
    }

-- ---- the log is emptied, or not

pub empty_log-requires-clause-parts : goal.empty_log-requires-clause-parts
empty_log-requires-clause-parts g c =
    parts_still g.L.Lines.room c.args.bounds.now.page c.args.bounds.now.entries c.args.parts.now c.replay.new.parts
    (only_read_more c.read_log.ensures.read c.replay.ensures.read).rooms c.requires.parts

pub empty_log-requires-clause-header : goal.empty_log-requires-clause-header
empty_log-requires-clause-header g c =
    let Says : List lines.PartHistory → Type 0 = λ row. RowTells row (λ told. SaysBounds c.args.bounds.now (row_words told)) in
    subst Says (sym (c.replay.ensures.read.histories ∙ c.read_log.ensures.read.histories)) c.requires.header

pub empty_log-requires-clause-none : goal.empty_log-requires-clause-none
empty_log-requires-clause-none g c =
    let None : List lines.PartHistory → Type 0 = λ row. RowTells row (λ told. CommitsNoneFrom c.in_ok-groups.found.next (row_words told)) in
    subst None (sym (c.replay.ensures.read.histories ∙ c.read_log.ensures.read.histories)) c.in_ok-groups.ensures.none

-- what emptying it leaves, however that ends
kept : (g : Over) (c : After-empty_log g)
    → AreKept g.L.Lines.history g.L.Lines.room g.L.Lines.device g.B.Backing.history g.B.Backing.device (1 + c.args.bounds.now.entries) c.args.parts.now c.args.stores.now c.empty_log.new.parts c.replay.new.stores
kept g c =
    let bounds = c.args.bounds.now in
    let first : List lines.PartHistory = map g.L.Lines.history c.args.parts.now in
    let last : List lines.PartHistory = map g.L.Lines.history c.empty_log.new.parts in
    let old : List StoreHistory = map g.B.Backing.history c.args.stores.now in
    let new : List StoreHistory = map g.B.Backing.history c.replay.new.stores in
    let read = only_read_more c.read_log.ensures.read c.replay.ensures.read in
    record {
      moments =
          stand_last bounds.version bounds.page bounds.entries c.args.names.now bounds.tail first (map g.L.Lines.history c.read_log.new.parts)
          (map g.L.Lines.history c.replay.new.parts) last old new c.in_ok-groups.found c.read_log.ensures.read.histories c.replay.ensures.read.histories
          c.requires.names c.requires.quiet c.replay.ensures.moments c.in_ok-replay.ensures.done c.in_ok-groups.ensures.found c.empty_log.ensures.moments;
      unfit = unfit_found first old c.in_ok-groups.groups.items (both_rows last new) c.in_ok-groups.ensures.groups;
      further = c.empty_log.ensures.further ∙ ap (drop (1 + bounds.entries)) read.histories;
      lines = c.empty_log.ensures.lines ∙ lines_same g.L.Lines.room bounds.page bounds.entries c.args.parts.now c.replay.new.parts read.rooms;
      devices = c.empty_log.ensures.devices ∙ read.devices;
      stores = c.replay.ensures.devices;
    }

pub returns-in_err-empty_log-clause-kept : goal.returns-in_err-empty_log-clause-kept
returns-in_err-empty_log-clause-kept g c = kept g (goal.at.returns-in_err-empty_log-clause-kept g c).After-empty_log

pub returns-clause-kept : goal.returns-clause-kept
returns-clause-kept g c = kept g (goal.at.returns-clause-kept g c).After-empty_log

pub returns-clause-rooms : goal.returns-clause-rooms
returns-clause-rooms g c =
    parts_stay (parts_read g.L.Lines.room c.args.parts.now c.replay.new.parts (only_read_more c.read_log.ensures.read c.replay.ensures.read).rooms)
    c.in_ok-empty_log.ensures.rooms
