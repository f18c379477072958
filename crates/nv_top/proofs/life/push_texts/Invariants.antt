use Rattle.std.proofs.Common.{◌≡◌, ◌++◌, map, drop}
use Rattle.nv_top.specs.LifeLines.{line_kept, texts_of}
use Rattle.nv_top.proofs.life.push_texts.Given as goal

-- what is there and what is to come are all
abbrev pub invariant-loop-one : goal.invariant-loop-one
invariant-loop-one l =
    l.text.items ++ texts_of (map line_kept (drop l.one-index l.lines))
    ≡ l.initial.text.items ++ texts_of (map line_kept l.lines)
