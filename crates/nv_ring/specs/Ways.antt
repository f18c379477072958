-- Ways: how one machine of a call goes on where another one ends.
use Rattle.std.specs.Prelude.{◌+◌, if◌then◌else◌}
use Rattle.nv_mirror.specs.declared.answers.Refusal.{Refusal}
use Rattle.nv_ring.specs.declared.append.AppendControl.{AppendControl}
use Rattle.nv_ring.specs.declared.append.AppendControl.TheVariants.{Refused}
use Rattle.nv_ring.specs.declared.append.AppendMachine.{AppendMachine}
use Rattle.nv_mirror.specs.declared.front.FrontControl.TheVariants.{GiveBack}
use Rattle.nv_mirror.specs.declared.front.FrontMachine.{FrontMachine}
use Rattle.nv_mirror.specs.declared.release.ReleaseControl.TheVariants.{GiveSize, GivePage}
use Rattle.nv_mirror.specs.declared.release.ReleaseMachine.{ReleaseMachine}
use Rattle.nv_ring.specs.declared.numbers.DrawControl.{DrawControl}
use Rattle.nv_ring.specs.declared.numbers.DrawControl.TheVariants.{Refused as NotDrawn}
use Rattle.nv_ring.specs.Appends.{append_asked}

-- an append is refused
abbrev pub IsRefused : AppendControl → Type 0
IsRefused (Refused refusal) = Unit {0}
IsRefused control = ⊥

-- a draw is refused
abbrev pub IsRefusedDraw : DrawControl → Type 0
IsRefusedDraw (NotDrawn refusal) = Unit {0}
IsRefusedDraw control = ⊥

-- the end of a write that is in the log: SIZE first, if it has that
abbrev pub released_of : AppendMachine → ReleaseMachine
released_of m = record {
  asked = append_asked m;
  page = m.page;
  pages = m.pages;
  sized = m.sized;
  length = m.length;
  place = m.place;
  control = if m.sized then GiveSize else GivePage 0;
}

-- the way back of one that is refused, with all that it holds
abbrev pub refused_of : AppendMachine → Refusal → FrontMachine
refused_of m refusal = record {
  asked = append_asked m;
  end = m.end;
  first = m.page;
  last = m.page + m.pages;
  held = m.pages;
  sized = m.sized;
  length = m.length;
  control = GiveBack m.sized refusal;
}
