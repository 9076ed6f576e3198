use Rattle.std.proofs.Common.{◌∙◌}
use Rattle.painting.proofs.Codes.{flag_at}
use Rattle.painting.proofs.marks.get.Goals as goal

pub returns : goal.returns
returns c = c.from.ensures ∙ flag_at c.args.marks.now c.args.place
