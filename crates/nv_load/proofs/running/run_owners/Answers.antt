-- What the owners were told is counted.
use Rattle.std.proofs.Common.{◌++◌, ap, ◌∙◌}
use Rattle.std.specs.List.{flat_map}
use Rattle.nv_runner.proofs.ListedLaws.{on_ok}
use Rattle.nv_load.specs.Counts.{counts_of}
use Rattle.nv_load.specs.Generators.{generator_made}
use Rattle.nv_load.proofs.running.run_owners.Goals as goal

pub returns-clause-ran : goal.returns-clause-ran
returns-clause-ran g c = λ calls before shares next run. record {
  made = flat_map generator_made c.run_round-result.new.done.items;
  ran = c.run_round-result.ensures.run calls before shares next run;
  all = on_ok c.run_round-result.result c.run_round-result.ensures.all (λ all. all calls before shares next);
  counted = λ earlier is. c.add_all.ensures earlier is ∙ ap (λ l. counts_of (earlier ++ flat_map generator_made l)) c.deref.ensures.value;
}
