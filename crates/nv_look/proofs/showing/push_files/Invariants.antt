use Rattle.std.proofs.Common.{◌≡◌, ◌++◌, drop}
use Rattle.nv_look.specs.Texts.{files_text}
use Rattle.nv_look.proofs.showing.push_files.Given as goal

-- what is there and what is to come are all
abbrev pub invariant-loop-i : goal.invariant-loop-i
invariant-loop-i l =
    l.text.items ++ files_text (drop l.i l.names) (drop l.i l.files) ≡ l.initial.text.items ++ files_text l.names l.files
