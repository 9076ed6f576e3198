use Rattle.std.proofs.Common.{◌≡◌, ◌≤◌, List, [], ◌∷◌, ◌++◌, length, None, Option, sym, refl, ap, ◌∙◌, subst, lit<}
use Rattle.ancestry.specs.Commits.{Commit, parents_of}
use Rattle.ancestry.specs.Lawful.{Laws}
use Rattle.ancestry.specs.Intake.{refusal, grown}
use Rattle.ancestry.specs.declared.refusal.Refusal.{Refusal}
use Rattle.ancestry.proofs.Intakes.{few_parents, not_full, growth_law}
use Rattle.history.specs.Meaning.{offered}
use Rattle.history.specs.Tables.{listed, commit_of}
use Rattle.history.proofs.Listed.{few_more}
use Rattle.history.proofs.Verdicts.{admitted, room_left}
use Rattle.history.proofs.rows.RowsHistory.intake.Goals as goal

pub of-requires : goal.of-requires
of-requires c = few_parents 512 _ _ (admitted _ c.in_ok-admits.ensures.answer)

pub push-requires : goal.push-requires
push-requires c =
    let full = not_full 512 _ _ (admitted _ c.in_ok-admits.ensures.answer) in
    let same = ap length c.in_ok-admits.ensures.same.list in
    (lit< tt, room_left _ _ 512 same c.requires.laws.fits full)

pub returns-clause-grown : goal.returns-clause-grown
returns-clause-grown c =
    let H = listed c.args.self.now.table in
    let n = offered c.args.commit.now in
    let w : refusal 512 H n ≡ None = admitted _ c.in_ok-admits.ensures.answer in
    let e : listed c.push.new.self ≡ H ++ n ∷ [] =
    c.push.ensures ∙ ap (λ (x : List Commit). x ++ commit_of c.of.result ∷ []) c.in_ok-admits.ensures.same.list ∙ ap (λ (d : Commit). H ++ d ∷ []) c.of.ensures in
    record {
      still = record {
        laws = subst (Laws 512) (sym e) (growth_law 512 H n c.requires.laws w);
        few = λ p. subst (λ (K : List Commit). length (parents_of K p) ≤ 16) (sym e) (few_more H n c.requires.few (few_parents 512 H n w) p);
      };
      list = e ∙ ap (λ (o : Option Refusal). grown o H n) (sym w);
      capacity = refl;
    }
