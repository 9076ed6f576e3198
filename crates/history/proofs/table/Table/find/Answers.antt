use Rattle.std.proofs.Common.{rules, eqb, ◌∙◌}
use borrow.Author.Tests.{tests}
use Rattle.std.proofs.lemmas.Iterator.{YieldsList-from_slice}
use Rattle.std.proofs.lemmas.Iterator.Search.{position_from_yields_List}
use Rattle.ancestry.specs.Ids.{num}
use Rattle.history.specs.declared.table.Row.{Row}
use Rattle.history.proofs.Listed.{position_place_of}
use Rattle.history.proofs.table.Table.find.Goals as goal

pub returns : goal.returns
returns g c =
    position_from_yields_List (λ (r : Row). eqb (num r.id) (num c.args.id)) _ _ _ c.position.ensures.ran
    (YieldsList-from_slice c.args.self.now.rows.items (c.iter.ensures.rest ∙ c.deref.ensures.0)) (λ x b q k. search (rules, tests))
    ∙ position_place_of c.args.self.now.rows.items (num c.args.id)
