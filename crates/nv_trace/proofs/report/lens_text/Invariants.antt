use Rattle.std.proofs.Common.{◌≡◌, ◌∷◌, ◌++◌, drop, map}
use Rattle.std.specs.Fmt.{decimal}
use Rattle.std.specs.List.{flat_map}
use Rattle.std.specs.Prelude.{string_bytes}
use Rattle.nv_trace.specs.Report.{listed}
use Rattle.nv_trace.proofs.report.lens_text.Given as goal

-- the text so far, with that of the lengths that are left
abbrev pub invariant-loop-len : goal.invariant-loop-len
invariant-loop-len l = string_bytes l.text ++ flat_map (λ more. 44 ∷ more) (map decimal (drop l.len-index l.rest)) ≡ listed (map decimal l.fn.lens)
