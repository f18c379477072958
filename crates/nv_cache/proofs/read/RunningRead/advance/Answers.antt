-- A look behind the step is no step.
use Rattle.std.proofs.Common.{◌≡◌, Bool, true, false, length, refl, sym, ap, ◌∙◌, rules}
use Rattle.std.proofs.lemmas.Bool.{true≢false}
use Rattle.nv_table.specs.state.Opened.{Opened}
use Rattle.nv_mirror.proofs.ReadParts.{taken_opened}
use Rattle.nv_cache.specs.RunningReads.{needs_rooms}
use Rattle.nv_cache.proofs.ReadStepLaws.{settled_one}
use Rattle.nv_cache.proofs.read.RunningRead.advance.Goals as goal

pub returns-clause-one : goal.returns-clause-one
returns-clause-one g c =
    settled_one c.args.self.now c.step.new.self c.settle.new.self c.args.pass.now c.step.new.pass c.settle.new.pass c.step.ensures.one c.settle.ensures.same c.settle.ensures.fault c.settle.ensures.place

pub returns-clause-asks : goal.returns-clause-asks
returns-clause-asks g c = c.settle.ensures.asks g.A.Asks.call ∙ c.step.ensures.asks

-- a read that needs rooms behind the step needed them before it
pub settle-requires-clause-room : goal.settle-requires-clause-room
settle-requires-clause-room g c needs = by (needs_rooms c.args.self.now) refl
  where
    opened : c.step.new.pass.view.opened ≡ c.args.pass.now.view.opened
    opened = taken_opened c.step.ensures.one.step c.args.pass.now c.step.new.pass c.step.ensures.one.taken

    long : length c.step.new.room ≡ length c.args.room.now
    long = search rules

    by : (before : Bool) → needs_rooms c.args.self.now ≡ before → length c.step.new.room ≡ c.step.new.pass.view.opened.sizes.page
    by true is = long ∙ (c.requires.rooms is).0 ∙ ap (λ (o : Opened). o.sizes.page) (sym opened)
    by false is = absurd (true≢false (sym needs ∙ c.step.ensures.bare is))
