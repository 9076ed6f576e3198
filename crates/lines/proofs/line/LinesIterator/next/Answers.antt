use Rattle.std.proofs.Common.{◌≡◌, [], length, sym, ap, ◌∙◌, rules}
use Rattle.std.proofs.lemmas.List.{nil_from_length}
use Rattle.lines.specs.Bytes.{lines_of}
use Rattle.lines.proofs.line.LinesIterator.next.Goals as goal

pub returns-then-is_empty-clause-steps : goal.returns-then-is_empty-clause-steps
unfolding lines_of
returns-then-is_empty-clause-steps c =
    let rest = c.self.inside.rest.now in
    let over : length rest ≡ 0 = search rules in
    let none : c.args.self.now ≡ [] = sym c.self.view_is ∙ ap lines_of (nil_from_length rest over) in (none, none)
