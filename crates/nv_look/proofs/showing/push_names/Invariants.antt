use Rattle.std.proofs.Common.{◌≡◌, ◌++◌, drop}
use Rattle.nv_look.specs.Texts.{names_text}
use Rattle.nv_look.proofs.showing.push_names.Given as goal

-- what is there and what is to come are all
abbrev pub invariant-loop-i : goal.invariant-loop-i
invariant-loop-i l =
    l.text.items ++ names_text l.i (drop l.i l.names) ≡ l.initial.text.items ++ names_text 0 l.names
