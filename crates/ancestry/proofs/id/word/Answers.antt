use Rattle.std.proofs.Common.{arith}
use Rattle.ancestry.specs.Numbers.{spelled_on}
use Rattle.ancestry.proofs.Spelling.{part_four}
use Rattle.ancestry.proofs.id.word.Goals as goal

pub returns : goal.returns
unfolding spelled_on
returns c = rw (part_four c.args.bytes.now c.args.at c.requires) (omega (arith, c.from_be_bytes.ensures))
