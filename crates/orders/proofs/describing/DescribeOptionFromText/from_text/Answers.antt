use Rattle.std.proofs.Common.{codes, sym, ap, rules}
use Rattle.std.proofs.lemmas.Slice.Eq.{text_from_reads}
use Rattle.orders.specs.Fields.{chosen}
use Rattle.orders.specs.Words.{option_of}
use Rattle.orders.proofs.describing.DescribeOptionFromText.from_text.Goals as goal

-- the arm of `--first-parent`
pub returns-in-45-2 : goal.returns-in-45-2
returns-in-45-2 c =
    ap (λ t. chosen (option_of t)) (sym (text_from_reads c.args.text.now (codes "--first-parent") (search rules) (search rules)))
