use Rattle.std.proofs.Common.{ltb, ap, ◌∙◌}
use Rattle.history.proofs.Verdicts.{exceeds_none, exceeds_some}
use Rattle.history.proofs.verdict.exceeded.Goals as goal

pub returns-in-Some : goal.returns-in-Some
returns-in-Some g c = record {
  same = c.read.ensures.same;
  answer = ap (ltb c.args.generation) c.rank.ensures ∙ exceeds_some _ _ _ c.in-Some.entry c.in-Some.ensures.answer;
}

pub returns-in-None : goal.returns-in-None
returns-in-None g c = record { same = c.read.ensures.same; answer = exceeds_none _ _ _ c.in-None.ensures.answer }
