use Rattle.std.proofs.Common.{refl, arith}
use Rattle.ancestry.proofs.id.Id.in_words.Goals as goal

pub returns : goal.returns
returns c = record {
  own = refl;
  fits = record { first = omega arith; second = omega arith; third = omega arith; fourth = omega arith; fifth = omega arith };
}
