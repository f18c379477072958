use Rattle.std.proofs.Common.{◌+◌, ℕ, List, Option, Some, length, ap, refl, subst, sym, ◌∙◌, arith}
use Rattle.std.specs.Prelude.{IfSome}
use Rattle.std.proofs.lemmas.List.{length_push}
use Rattle.nv_plain.specs.Layouts.{layout_of}
use Rattle.nv_pmem.specs.Moments.{Tells}
use Rattle.nv_pmem.specs.Steps.{PartHistory}
use Rattle.nv_header.specs.FileNames.{AreFileNames, IsNewName}
use Rattle.nv_header.specs.Heads.{header_image}
use Rattle.nv_header.specs.NextName.{AreNames, IsNextName}
use Rattle.nv_header.proofs.FileNameLaws.{no_file_names, file_names_more}
use Rattle.nv_pmem.proofs.Rooms.{Keeps-more, Keeps-none}
use Rattle.nv_header.proofs.Records.{no_names, names_more}
use Rattle.nv_header.proofs.read.read_names.Goals as goal

pub loop-i-init : goal.loop-i-init
loop-i-init g c =
    let Are : List (List ℕ) → Type 0 = λ names. Tells (g.L.Lines.history c.args.part.now) (λ now. AreNames (layout_of c.args.version) (header_image now) 0 names) in
    record {
      names = subst Are (sym c.new-names.ensures) (no_names (g.L.Lines.history c.args.part.now) (layout_of c.args.version));
      size = ap length c.new-names.ensures;
      allowed = subst (AreFileNames (layout_of c.args.version)) (sym c.new-names.ensures) (no_file_names (layout_of c.args.version));
      history = refl;
      room = Keeps-none _;
      faults = refl;
      device = refl;
    }

pub loop-i-preserved : goal.loop-i-preserved
loop-i-preserved g c =
    let Next : Option (List ℕ) → PartHistory → Type 0 = λ next history. Tells history (λ now. IsNextName (layout_of c.args.version) (header_image now) c.loop-i.names c.loop-i.i next) in
    let At : Option (List ℕ) → Type 0 = λ next. Next next (g.L.Lines.history c.loop-i.part) in
    let Are : List (List ℕ) → Type 0 = λ names. Tells (g.L.Lines.history c.args.part.now) (λ now. AreNames (layout_of c.args.version) (header_image now) (c.loop-i.i + 1) names) in
    let May : Option (List ℕ) → Type 0 = λ next. IfSome next (IsNewName (layout_of c.args.version) c.loop-i.names) in
    let next = subst (Next (Some c.in-Some.name)) c.loop-i.invariant.history (subst At c.in-Some.is c.in_ok-name.ensures.next) in
    record {
      names =
          subst Are (sym c.in_ok-push.ensures.ok)
          (names_more (g.L.Lines.history c.args.part.now) (layout_of c.args.version) c.loop-i.names c.loop-i.i c.in-Some.name c.loop-i.invariant.names next);
      size =
          ap length c.in_ok-push.ensures.ok
          ∙ length_push c.loop-i.names c.in-Some.name
          ∙ ap (λ size. size + 1) c.loop-i.invariant.size;
      allowed =
          subst (AreFileNames (layout_of c.args.version)) (sym c.in_ok-push.ensures.ok)
          (file_names_more (layout_of c.args.version) c.loop-i.names c.in-Some.name (omega (arith, c.loop-i.invariant.size))
          (subst May (c.in-Some.is) c.in_ok-name.ensures.allowed) c.loop-i.invariant.allowed);
      history = c.in_ok-name.ensures.history ∙ c.loop-i.invariant.history;
      room = Keeps-more c.loop-i.invariant.room c.in_ok-name.ensures.room;
      faults = c.in_ok-name.ensures.cause ∙ c.loop-i.invariant.faults;
      device = c.in_ok-name.ensures.device ∙ c.loop-i.invariant.device;
    }
