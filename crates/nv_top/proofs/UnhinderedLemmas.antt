-- Unhindered commands: a plain one is.
use Rattle.std.proofs.Common.{◌≡◌, ◌≤◌, Bool, true, false, List, [], length, refl, sym, ap, subst, ◌∙◌, arith}
use Rattle.std.specs.Prelude.{not}
use Rattle.std.proofs.lemmas.List.Filters.{length-filter_both}
use Rattle.nv_plain.specs.Layouts.{mount_layout}
use Rattle.nv_bench.specs.Holding.{Holding}
use Rattle.nv_bench.specs.Opening.{is_blank}
use Rattle.nv_open.specs.Adding.{all_names, is_known}
use Rattle.nv_open.specs.Begun.{HasTooMany}
use Rattle.nv_open.specs.declared.error.Refusal.{Refusal}
use Rattle.nv_open.specs.declared.error.Refusal.TheVariants.{Truncated, BadMagic, BadVersion, BadGeometry, BadName, BadEntry, TooManyFiles}
use Rattle.nv_trace.specs.Lines.{parts_between}
use Rattle.nv_trace.specs.Reading.{Whole, after_lines, ending_of}
use Rattle.nv_trace.specs.Traced.{Traced, empty_trace}
use Rattle.nv_trace.specs.declared.trace.Form.TheVariants as forms
use Rattle.nv_top.specs.Commands.{IsNotRun}
use Rattle.nv_top.specs.Endings.{IsTrace}
use Rattle.nv_top.specs.Headline.{PlainIsUnhindered}
use Rattle.nv_words.specs.declared.words.RunOptions.{RunOptions}

never_both : {test : Bool} → test ≡ true → test ≡ false → ⊥
never_both one other = cc

one_trace : {one other : Traced} → Whole one ≡ Whole other → one ≡ other
one_trace {one} {other} is = cc

-- a blank region is refused for no run of a few files
blank_allowed : (options : RunOptions) (holding : Holding) (wanted : List _) → is_blank holding.parts ≡ true → length wanted ≤ mount_layout.file_limit → (why : Refusal) → ¬ (IsNotRun options holding wanted why)
blank_allowed options holding wanted blank few why refused = by why refused
  where
    not_blank : (why : Refusal) → ¬ (why ≡ TooManyFiles) → IsNotRun options holding wanted why → ⊥
    not_blank why other refused = never_both blank (refused.not_opened.not_blank other).0

    by : (why : Refusal) → IsNotRun options holding wanted why → ⊥
    by (Truncated found most) refused = not_blank (Truncated found most) (λ same. cc) refused
    by BadMagic refused = not_blank BadMagic (λ same. cc) refused
    by (BadVersion found) refused = not_blank (BadVersion found) (λ same. cc) refused
    by (BadGeometry field found) refused = not_blank (BadGeometry field found) (λ same. cc) refused
    by (BadName i) refused = not_blank (BadName i) (λ same. cc) refused
    by (BadEntry number) refused = not_blank (BadEntry number) (λ same. cc) refused
    by TooManyFiles refused =
        let many : HasTooMany holding.parts refused.geometry wanted = refused.not_opened.many refl in
        let none = ap (λ known. length (all_names known wanted)) (many.begun.formatted blank).names_are in
        let both = length-filter_both (λ name. not (is_known [] name)) (λ name. not (not (is_known [] name))) (λ name. refl) wanted in
        let more = many.many in
        omega (arith, none, both, few, more)

pub plain_is_unhindered : PlainIsUnhindered
plain_is_unhindered options bytes trace holding whole blank few before now settled faults read devices = record {
  has_input = (bytes, refl, (trace, whole));
  not_refused = λ why refused. blank_allowed options holding trace.names blank few why (subst (λ (read : Traced). IsNotRun options holding read.names why) (one_trace (sym refused.1 ∙ whole)) refused.2);
  read = read;
  devices = devices;
}

-- the empty input is a trace
pub nothing_is_a_trace : IsTrace forms.Run []
unfolding ending_of after_lines parts_between
nothing_is_a_trace = (empty_trace forms.Run, refl)
