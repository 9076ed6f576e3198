use Rattle.ancestry.proofs.Readings.{eight_none_0, eight_none_1, eight_none_2, eight_none_3, eight_some}
use Rattle.ancestry.proofs.hex.word.Goals as goal

pub returns-in_err-a : goal.returns-in_err-a
returns-in_err-a c =
    rw c.from_residual.ensures
    (eight_none_0 c.args.text.now c.args.at c.requires c.in_err-a.ensures.value)

pub returns-in_err-b : goal.returns-in_err-b
returns-in_err-b c =
    rw c.from_residual-in_err-b.ensures
    (eight_none_1 c.args.text.now c.args.at c.requires c.in_ok-a.a c.in_ok-a.ensures.value c.in_err-b.ensures.value)

pub returns-in_err-c : goal.returns-in_err-c
returns-in_err-c c =
    rw c.from_residual-in_err-c.ensures
    (eight_none_2 c.args.text.now c.args.at c.requires c.in_ok-a.a c.in_ok-a.ensures.value c.in_ok-b.b c.in_ok-b.ensures.value c.in_err-c.ensures.value)

pub returns-in_err-d : goal.returns-in_err-d
returns-in_err-d c =
    rw c.from_residual-in_err-d.ensures
    (eight_none_3 c.args.text.now c.args.at c.requires c.in_ok-a.a c.in_ok-a.ensures.value c.in_ok-b.b c.in_ok-b.ensures.value c.in_ok-c.c c.in_ok-c.ensures.value c.in_err-d.ensures.value)

pub returns : goal.returns
returns c =
    eight_some c.args.text.now c.args.at c.requires
    c.in_ok-a.a c.in_ok-a.ensures.value
    c.in_ok-b.b c.in_ok-b.ensures.value
    c.in_ok-c.c c.in_ok-c.ensures.value
    c.in_ok-d.d c.in_ok-d.ensures.value
