use Rattle.std.proofs.Common.{◌<◌, length, ap, arith}
use Rattle.painting.specs.Bits.{flags}
use Rattle.painting.specs.Marks.{total, lively}
use Rattle.painting.proofs.Codes.{length-flags}
use Rattle.painting.proofs.Counts.{lively_most, total_has, total_lively, total-set}
use Rattle.painting.proofs.painter.Painter.set.Goals as goal

pub recounted-self-requires : goal.recounted-self-requires
recounted-self-requires c =
    let ms = flags c.args.self.now.marks.now in
    let n = length-flags c.args.self.now.marks.now in
    record {
      counted = omega (arith, ap lively c.mark.ensures, total_has lively ms c.args.place (omega (arith, n, c.requires.below)), c.requires.alive);
      fits = omega (arith, n, lively_most c.args.mark, total_lively ms, c.requires.alive, c.requires.few);
    }

pub returns-clause-alive : goal.returns-clause-alive
returns-clause-alive c =
    let ms = flags c.args.self.now.marks.now in
    let l : c.args.place < length ms = omega (arith, length-flags c.args.self.now.marks.now, c.requires.below) in
    omega (arith, c.recounted-self.ensures, ap lively c.mark.ensures, ap (total lively) c.put.ensures, total-set lively ms c.args.place c.args.mark l, c.requires.alive)
