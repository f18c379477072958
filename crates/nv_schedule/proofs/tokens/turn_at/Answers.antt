-- The caller at the place makes its advance.
use Rattle.std.proofs.Common.{◌∙◌}
use Rattle.nv_schedule.proofs.FollowLaws.{all_stand, next_is, one_tells}
use Rattle.nv_schedule.proofs.SinceLaws.{turn_on}
use Rattle.nv_schedule.proofs.tokens.turn_at.Goals as goal

pub turn_behind-requires-clause-some : goal.turn_behind-requires-clause-some
turn_behind-requires-clause-some g c = λ none.
    c.requires.some (next_is c.args.callers.now c.args.place c.index-callers-place.result c.requires.within ∙ none)

pub turn_behind-requires-clause-board : goal.turn_behind-requires-clause-board
turn_behind-requires-clause-board g c = (c.requires.stand c.args.place c.index-callers-place.result c.requires.within).0

pub turn_behind-requires-clause-come : goal.turn_behind-requires-clause-come
turn_behind-requires-clause-come g c =
    let stands = c.requires.stand c.args.place c.index-callers-place.result c.requires.within in
    (stands.2, stands.3)

pub returns-clause-stand : goal.returns-clause-stand
returns-clause-stand g c =
    all_stand c.args.mount.now c.args.callers.now c.args.place c.index-callers-place.result c.turn_behind.new.self c.args.view.run c.turn_behind.result.0.run c.requires.within c.turn_behind.result.1 c.requires.stand
    c.turn_behind.ensures.board c.turn_behind.ensures.turned c.turn_behind.ensures.memory

pub returns-clause-turned : goal.returns-clause-turned
returns-clause-turned g c =
    one_tells c.args.mount.now c.args.callers.now c.args.place c.index-callers-place.result c.turn_behind.new.self c.args.view.run c.turn_behind.result.0.run c.requires.within c.turn_behind.result.1
    c.turn_behind.ensures.turned

pub returns-clause-on : goal.returns-clause-on
returns-clause-on g c =
    turn_on c.args.mount.now.fds c.args.place c.args.callers.now c.index-callers-place.result c.turn_behind.new.self c.args.view.run c.turn_behind.result.0.run c.turn_behind.result.1
    (one_tells c.args.mount.now c.args.callers.now c.args.place c.index-callers-place.result c.turn_behind.new.self c.args.view.run c.turn_behind.result.0.run c.requires.within c.turn_behind.result.1 c.turn_behind.ensures.turned)
    c.turn_behind.ensures.memory
