use Rattle.std.proofs.Common.{sym, ◌∙◌, arith}
use Rattle.ancestry.specs.Numbers.{letters}
use Rattle.ancestry.proofs.Library.{position-index_of}
use Rattle.ancestry.proofs.Readings.{reading_two}
use Rattle.ancestry.proofs.Letters.{joined_none, joined_half, joined_some}
use Rattle.ancestry.proofs.hex.byte.Goals as goal

pub returns-in_err-high : goal.returns-in_err-high
returns-in_err-high c =
    let e = reading_two c.args.text.now c.args.at c.requires in
    rw c.from_residual.ensures (record { value = joined_none 16 _ _ (c.in_err-high.ensures.value ∙ position-index_of _ letters) ∙ sym e; small = tt })

pub returns-in_err-low : goal.returns-in_err-low
returns-in_err-low c =
    let e = reading_two c.args.text.now c.args.at c.requires in
    rw c.from_residual-in_err-low.ensures (record {
      value = joined_half 16 _ _ _ (c.in_ok-high.ensures.value ∙ position-index_of _ letters) (c.in_err-low.ensures.value ∙ position-index_of _ letters) ∙ sym e;
      small = tt;
    })

pub returns : goal.returns
returns c =
    let e = reading_two c.args.text.now c.args.at c.requires in
    record {
      value = joined_some 16 _ _ _ _ (c.in_ok-high.ensures.value ∙ position-index_of _ letters) (c.in_ok-low.ensures.value ∙ position-index_of _ letters) ∙ sym e;
      small = omega (arith, c.in_ok-high.ensures.small, c.in_ok-low.ensures.small);
    }
