use Rattle.std.proofs.Common.{ℕ, List, ◌++◌, length, ap, ◌∙◌}
use Rattle.nv_bench.specs.Benches.{BenchState}
use Rattle.nv_open.proofs.Layers.{added_opens, not_added_opens, not_begun_opens}
use Rattle.nv_open.proofs.WithWanted.{still_quiet, lent_more}
use Rattle.nv_open.proofs.opening.open_parts.Goals as goal

pub add_wanted-requires-clause-synced : goal.add_wanted-requires-clause-synced
add_wanted-requires-clause-synced g c κs lives =
    still_quiet (length c.begin.new.stores.items) (g.T.Bench.state c.args.bench.now) (g.T.Bench.state c.begin.new.bench) c.in-Ok.ensures.lent c.requires.given.synced

pub returns-in-Ok-clause-lent : goal.returns-in-Ok-clause-lent
returns-in-Ok-clause-lent g c =
    lent_more (length c.begin.new.stores.items) (length c.add_wanted.new.stores.items) (g.T.Bench.state c.args.bench.now) (g.T.Bench.state c.begin.new.bench) (g.T.Bench.state c.add_wanted.new.bench) c.in-Ok.ensures.lent
    c.add_wanted.ensures.lent

pub add_wanted-requires-clause-names : goal.add_wanted-requires-clause-names
add_wanted-requires-clause-names g c κs lives =
    ap (λ (state : BenchState). state.lent) c.in-Ok.ensures.begun.devices.lent ∙ ap (λ (front : List (List ℕ)). front ++ c.in-Ok.region.names) c.requires.given.home

pub add_wanted-requires-clause-open : goal.add_wanted-requires-clause-open
add_wanted-requires-clause-open g c κs lives = ap (λ (state : BenchState). state.is_open) c.in-Ok.ensures.begun.devices.lent ∙ c.requires.given.is_open

pub add_wanted-requires-clause-one_each : goal.add_wanted-requires-clause-one_each
add_wanted-requires-clause-one_each g c κs lives = c.in-Ok.ensures.begun.devices.one_each

pub returns-in-Ok-clause-opened : goal.returns-in-Ok-clause-opened
returns-in-Ok-clause-opened g c =
    let region = c.in-Ok.region in
    added_opens g.T.Part.Lines.history g.T.Store.Backing.history (g.T.Bench.state c.args.bench.now) (g.T.Bench.state c.begin.new.bench) (g.T.Bench.state c.add_wanted.new.bench) c.args.parts.items region.parts.items
    c.begin.new.stores.items c.add_wanted.new.stores.items c.args.geometry c.args.wanted.now region.geometry region.names region.next c.in-Ok.ensures.begun c.rows_have_states.ensures.some c.add_wanted.result c.add_wanted.ensures.added

pub returns-in-Ok-clause-given_up : goal.returns-in-Ok-clause-given_up
returns-in-Ok-clause-given_up g c =
    let region = c.in-Ok.region in
    not_added_opens g.T.Part.Lines.history g.T.Store.Backing.history (g.T.Bench.state c.args.bench.now) (g.T.Bench.state c.begin.new.bench) (g.T.Bench.state c.add_wanted.new.bench) c.args.parts.items region.parts.items
    c.begin.new.stores.items c.add_wanted.new.stores.items c.args.geometry c.args.wanted.now region.geometry region.names region.next c.in-Ok.ensures.begun c.rows_have_states.ensures.some c.add_wanted.result c.add_wanted.ensures.given_up

pub returns-in-Err-clause-given_up : goal.returns-in-Err-clause-given_up
returns-in-Err-clause-given_up g c =
    not_begun_opens g.T.Part.Lines.history g.T.Store.Backing.history (g.T.Bench.state c.args.bench.now) (g.T.Bench.state c.begin.new.bench) c.args.parts.items c.in-Err.failed.0.items c.begin.new.stores.items
    c.args.geometry c.args.wanted.now c.in-Err.failed.1 c.in-Err.ensures.given_up
