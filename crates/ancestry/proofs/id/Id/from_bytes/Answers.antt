use Rattle.std.proofs.Common.{◌≡◌, length, arith}
use Rattle.ancestry.proofs.Bytes.{twenty}
use Rattle.ancestry.proofs.id.Id.from_bytes.Goals as goal

pub returns : goal.returns
returns c =
    let n : length c.args.bytes ≡ 20 = omega arith in
    omega (arith, twenty c.args.bytes n, c.word.ensures, c.word-2.ensures, c.word-3.ensures, c.word-4.ensures, c.word-5.ensures)
