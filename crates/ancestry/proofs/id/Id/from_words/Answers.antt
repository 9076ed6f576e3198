use Rattle.std.proofs.Common.{sym, ap, ◌∙◌, arith}
use Rattle.ancestry.specs.Numbers.{spelled}
use Rattle.ancestry.proofs.Bytes.{five, spelled_five}
use Rattle.ancestry.proofs.id.Id.from_words.Goals as goal

pub returns : goal.returns
returns c = sym (spelled_five _ _ _ _ _) ∙ ap (spelled 4294967296) (sym (five c.args.words (omega arith)))
