use Rattle.std.proofs.Common.{length, sym, ap, ◌∙◌, rules, w64, SFits}
use Rattle.std.proofs.lemmas.Int.{to_z-of_z}
use Rattle.ancestry.specs.Commits.{Commit}
use Rattle.history.proofs.Listed.{found_at, inside}
use Rattle.history.proofs.table.Table.read.Goals as goal

pub returns : goal.returns
returns g c =
    let found = c.in_ok-row.ensures.lookup in
    let f : SFits w64 c.in_ok-row.row.now.date = search rules in
    let e = sym (found_at c.args.self.now _ c.args.place c.deref.ensures.0 c.in_ok-row.row.now found.0 found.1) in
    record {
      held = inside c.args.self.now _ c.args.place c.deref.ensures.0 found.0;
      id = ap (λ (d : Commit). d.id) e;
      generation = ap (λ (d : Commit). d.generation) e;
      date = simp to_z-of_z (ap (λ (d : Commit). d.date) e);
      parents = c.len.ensures.value ∙ ap (λ (d : Commit). length d.parents) e;
    }
