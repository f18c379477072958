-- The batches so far carried entries, and placed nothing.
use Rattle.std.proofs.Common.{◌≡◌}
use Rattle.std.specs.Prelude.{ℕ}
use Rattle.nv_table.specs.invariant.Idle.{IsLater}
use Rattle.nv_mirror.specs.Answers.{IsUnplaced}
use Rattle.nv_session.specs.Calls.{HaveCarried}
use Rattle.nv_session.proofs.first.FirstSession.clean_all.Given as goal

abbrev pub invariant-loop : goal.invariant-loop
invariant-loop g l = record {
  bench : l.self.bench ≡ l.initial.self.bench;
  mount : l.self.mount ≡ l.initial.self.mount;
  later : IsLater l.initial.self.pass l.self.pass;
  spare : l.self.pass.spare ≡ l.initial.self.pass.spare;
  carried : (count : ℕ) × HaveCarried l.most count l.initial.self.pass l.self.pass;
  kept : IsUnplaced l.initial.self.pass.view l.self.pass.view;
  next : (goal.iterator-loop g).can_next l.iterator';
  finite : (goal.iterator-loop g).is_finite l.iterator';
}
