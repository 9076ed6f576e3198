use Rattle.painting.proofs.Codes.{flag_set}
use Rattle.painting.proofs.marks.put.Goals as goal

pub returns : goal.returns
returns c = flag_set c.args.marks.now c.args.place c.from.result c.args.mark c.from.ensures
