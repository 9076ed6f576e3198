use Rattle.runs.proofs.Steps.{none_law, more_law}
use Rattle.runs.proofs.Kept.{run_law}
use Rattle.runs.proofs.Example.{example}
use Rattle.runs.proofs.theorems.runs_keep_their_promises.Goals as goal

pub returns : goal.returns
returns c = record { promised = run_law; none = none_law; more = more_law; example = example }
