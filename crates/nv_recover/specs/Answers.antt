-- Answers: what recovery gives back, whichever answer came.
use Rattle.std.specs.Prelude.{List, Vec, Result, Ok, Err}
use Rattle.nv_header.specs.declared.region.Region.{Region}

-- the parts: those of the region, or by themselves with an error
abbrev pub parts_after : {L A T E : Type 0} {g : _} → Result (Region L g × T) (Vec L A × E) → List L
parts_after (Ok done) = done.0.parts.items
parts_after (Err failed) = failed.0.items

-- the answer without them: what was found, or why nothing was
abbrev pub answer_of : {L A T E : Type 0} {g : _} → Result (Region L g × T) (Vec L A × E) → Result T E
answer_of (Ok done) = Ok done.1
answer_of (Err failed) = Err failed.1
