use Rattle.std.proofs.Common.{◌≡◌, ℕ, List, take, ap, sym, ◌∙◌, subst}
use Rattle.std.specs.Prelude.{nat_eq}
use Rattle.std.specs.List.{list_any}
use lib.Pointwise.{pointwise}
use Rattle.nv_plain.specs.Layouts.{layout_of}
use Rattle.nv_header.specs.FileNames.{IsNewName}
use Rattle.nv_header.proofs.NewNames.{unknown_name}
use Rattle.nv_header.proofs.Records.{next_bad, next_good, next_known, record_allowed}
use Rattle.nv_header.proofs.read.read_name.Goals as goal

pub returns-in_default-clause-next : goal.returns-in_default-clause-next
returns-in_default-clause-next g c =
    next_bad (g.L.Lines.history c.args.part.now) (layout_of c.args.version) c.args.earlier.now c.args.i c.in_ok-record.record.length (take (layout_of c.args.version).name_limit c.in_ok-record.record.room)
    (record { length_is = c.in_ok-record.ensures.length; room_is = c.in_ok-record.ensures.bytes })
    c.in_default.ensures.bad

pub returns-then-contains-clause-next : goal.returns-then-contains-clause-next
returns-then-contains-clause-next g c =
    next_known (g.L.Lines.history c.args.part.now) (layout_of c.args.version) c.args.earlier.now c.args.i c.in_ok-record.record.length (take (layout_of c.args.version).name_limit c.in_ok-record.record.room) c.in-Some.name.now
    (record { length_is = c.in_ok-record.ensures.length; room_is = c.in_ok-record.ensures.bytes })
    c.in-Some.ensures.name (sym c.contains.ensures ∙ c.if-contains.true)

pub returns-clause-next : goal.returns-clause-next
returns-clause-next g c =
    let name_is : c.from_vec.result ≡ c.in-Some.name.now = c.from_vec.ensures ∙ c.in_ok-bytes.ensures.items in
    next_good (g.L.Lines.history c.args.part.now) (layout_of c.args.version) c.args.earlier.now c.args.i c.in_ok-record.record.length (take (layout_of c.args.version).name_limit c.in_ok-record.record.room) c.from_vec.result
    (record { length_is = c.in_ok-record.ensures.length; room_is = c.in_ok-record.ensures.bytes })
    c.in-Some.ensures.good
    (name_is ∙ c.in-Some.ensures.name)
    (ap (λ name. list_any (λ known. pointwise nat_eq known name) c.args.earlier.now) name_is ∙ sym c.contains.ensures ∙ c.if-contains.false)

pub returns-clause-allowed : goal.returns-clause-allowed
returns-clause-allowed g c =
    let name_is : c.from_vec.result ≡ c.in-Some.name.now = c.from_vec.ensures ∙ c.in_ok-bytes.ensures.items in
    let New : List ℕ → Type 0 = IsNewName (layout_of c.args.version) c.args.earlier.now in
    subst New (sym name_is)
    (record {
      allowed = record_allowed (layout_of c.args.version).name_limit c.in_ok-record.record.length (take (layout_of c.args.version).name_limit c.in_ok-record.record.room) c.in-Some.name.now c.in-Some.ensures.good c.in-Some.ensures.name;
      new = unknown_name c.args.earlier.now c.in-Some.name.now (sym c.contains.ensures ∙ c.if-contains.false);
    })
