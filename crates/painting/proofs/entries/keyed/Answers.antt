use Rattle.std.proofs.Common.{refl, ap, ◌∙◌, w64, SFits, rules}
use Rattle.std.proofs.lemmas.Int.{to_z-of_z}
use Rattle.ancestry.specs.Keys.{rank}
use Rattle.painting.proofs.Shows.{entered}
use Rattle.painting.proofs.entries.keyed.Goals as goal

pub returns : goal.returns
returns g c =
    let e = entered _ _ _ c.unwrap-entry.result c.read.ensures.answer c.unwrap-entry.ensures in
    record {
      same = c.read.ensures.same;
      keys = record {
        place = refl;
        generation = c.rank.ensures ∙ ap rank e.generation;
        date = (let f : SFits w64 c.unwrap-entry.result.date = search rules in simp to_z-of_z) ∙ e.date;
        id = e.id;
      };
    }
