use Rattle.std.proofs.Common.{◌≡◌, ap, ◌∙◌, refl, arith}
use Rattle.ancestry.specs.Numbers.{letters, hex, from_hex}
use Rattle.ancestry.specs.Ids.{num}
use Rattle.ancestry.proofs.Letters.{hex-letters, hex-back, lettered_more}
use Rattle.ancestry.proofs.id.Id.to_hex.Goals as goal

pub loop-i-preserved : goal.loop-i-preserved
unfolding letters
loop-i-preserved c = rw c.to_bytes-bytes.ensures.bytes (lettered_more _ c.loop-i.text c.loop-i.i c.loop-i.invariant.0 (omega arith) c.loop-i.invariant.1)

pub returns : goal.returns
returns c =
    let spelt : c.loop-i.text ≡ hex (num c.args.self) = hex-letters _ _ _ refl c.loop-i.invariant.0 (λ k l. c.loop-i.invariant.1 k (omega arith)) in
    record {
      letters = spelt;
      back = ap from_hex spelt ∙ hex-back (num c.args.self) c.to_bytes-bytes.ensures.bits;
      bits = c.to_bytes-bytes.ensures.bits;
    }
