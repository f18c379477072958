use Rattle.std.proofs.Common.{◌≡◌, ◌^◌, ◌≤◌, take}
use Rattle.nv_recover.specs.Groups.{leaders_of}
use Rattle.nv_recover.specs.Recovering.{end_of}
use Rattle.nv_recover.proofs.recovering.recovered_from.Given as goal

-- what the groups before this one say
abbrev pub invariant-loop-group : goal.invariant-loop-group
invariant-loop-group l = record {
  leaders : l.leaders.items ≡ leaders_of (take l.group-index l.groups);
  end : end_of l.fn.tail (take l.group-index l.groups) ≤ 2 ^ 60 → l.end ≡ end_of l.fn.tail (take l.group-index l.groups);
}
