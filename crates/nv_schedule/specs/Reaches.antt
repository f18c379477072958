-- Reaches: when a token has come to its point.
use Rattle.std.specs.Prelude.{ℕ, Bool, true, false, nat_lt, if◌then◌else◌, Option, Some, None}
use Rattle.nv_op.specs.declared.kinds.Kind.{Kind}
use Rattle.nv_op.specs.declared.kinds.Kind.TheVariants as kinds
use Rattle.nv_trace.specs.declared.token.Reach.{Reach}
use Rattle.nv_trace.specs.declared.token.Reach.TheVariants as reaches
use Rattle.nv_trace.specs.declared.token.StepName.{StepName}
use Rattle.nv_trace.specs.declared.token.StepName.TheVariants as names
use Rattle.nv_trace.specs.declared.token.Turn.{Turn}
use Rattle.nv_trace.specs.declared.token.Turn.TheVariants.{Thread, Cleaner}

-- a step is of the kind that a token names
abbrev pub is_named : StepName → Kind → Bool
is_named names.Load kinds.Load = true
is_named names.Take kinds.Take = true
is_named names.Give kinds.Give = true
is_named names.Place kinds.Place = true
is_named names.Stop kinds.Stop = true
is_named names.Draw kinds.Draw = true
is_named names.Seize kinds.Seize = true
is_named names.Pledge kinds.Pledge = true
is_named names.Ready kinds.Ready = true
is_named names.Grow kinds.Grow = true
is_named names.Break kinds.Break = true
is_named names.Hold kinds.Hold = true
is_named names.Return kinds.Return = true
is_named names.Subtract kinds.Subtract = true
is_named names.Free kinds.Free = true
is_named names.Tail kinds.Tail = true
is_named names.Hand kinds.Hand = true
is_named names.Hint kinds.Hint = true
is_named name kind = false

-- A token is at its point before any advance, where its caller has no call left, or makes a step of its kind next.
abbrev pub is_there : Reach → (next : Option Kind) → Bool
is_there reach None = true
is_there (reaches.Kind name) (Some kind) = is_named name kind
is_there reach (Some kind) = false

-- And behind an advance, where that is the one, or has answered the present call; or where it makes a step of its kind next, or has no call left.
abbrev pub has_come : Reach → (answered : Bool) → (next : Option Kind) → Bool
has_come reach answered None = true
has_come reaches.One answered (Some kind) = true
has_come reaches.Done answered (Some kind) = answered
has_come (reaches.Kind name) answered (Some kind) = is_named name kind

-- the place of a caller: the threads come by their numbers, and the cleaner is the last
abbrev pub place_of : Turn → ℕ
place_of (Thread number) = if nat_lt number 8 then number else 9
place_of Cleaner = 8
