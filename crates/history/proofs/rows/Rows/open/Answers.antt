use Rattle.std.proofs.Common.{rules, ◌≤◌, List, length, sym, subst}
use Rattle.ancestry.specs.Commits.{Commit, parents_of}
use Rattle.history.proofs.Listed.{few_none}
use Rattle.history.proofs.rows.Rows.open.Goals as goal

pub returns-clause-whole : goal.returns-clause-whole
returns-clause-whole c = record {
  laws = search rules;
  few = λ p. subst (λ (H : List Commit). length (parents_of H p) ≤ 16) (sym c.new.ensures) (few_none p);
}
