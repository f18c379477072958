use Rattle.std.proofs.Common.{◌≡◌, ◌∷◌, ◌++◌, drop, map}
use Rattle.std.specs.Prelude.{string_bytes}
use Rattle.std.specs.List.{flat_map}
use Rattle.nv_trace.specs.Report.{hex_text, listed}
use Rattle.nv_trace.proofs.report.parts_text.Given as goal

-- the text so far, with that of the parts that are left
abbrev pub invariant-loop-part : goal.invariant-loop-part
invariant-loop-part l = string_bytes l.text ++ flat_map (λ more. 44 ∷ more) (map hex_text (drop l.part-index l.rest)) ≡ listed (map hex_text l.fn.parts)
