use Rattle.std.proofs.Common.{[], ◌∷◌}
use Rattle.nv_plain.proofs.HistoryLemmas.{after-append, IsLegal-push, IsLegal-front, IsLegal-back, length-after}
use Rattle.nv_plain.proofs.laws.history_goes_on.Goals as goal

pub returns-clause-files : goal.returns-clause-files
returns-clause-files c = λ earlier answered files. after-append earlier (answered ∷ []) files

pub returns-clause-legal : goal.returns-clause-legal
returns-clause-legal c = λ earlier answered files.
    let last = answered ∷ [] in (
      λ whole. (IsLegal-front earlier last files whole, (IsLegal-back earlier last files whole).0),
      λ parts. IsLegal-push earlier answered files parts.0 parts.1,
    )

pub returns-clause-count : goal.returns-clause-count
returns-clause-count c = length-after
