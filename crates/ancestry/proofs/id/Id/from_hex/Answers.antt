use Rattle.std.proofs.Common.{◌≡◌, length, arith}
use Rattle.ancestry.proofs.Readings.{not_forty, forty_none_0, forty_none_1, forty_none_2, forty_none_3, forty_none_4, forty_some}
use Rattle.ancestry.proofs.id.Id.from_hex.Goals as goal

pub returns-then-text-ne40 : goal.returns-then-text-ne40
returns-then-text-ne40 c = not_forty c.args.text.now c.if-text-ne40.true

pub returns-in_err-first : goal.returns-in_err-first
returns-in_err-first c =
    let n : length c.args.text.now ≡ 40 = omega arith in
    rw c.from_residual.ensures (forty_none_0 c.args.text.now n c.in_err-first.ensures)

pub returns-in_err-second : goal.returns-in_err-second
returns-in_err-second c =
    let n : length c.args.text.now ≡ 40 = omega arith in
    rw c.from_residual-in_err-second.ensures (forty_none_1 c.args.text.now n c.in_ok-first.first c.in_ok-first.ensures c.in_err-second.ensures)

pub returns-in_err-third : goal.returns-in_err-third
returns-in_err-third c =
    let n : length c.args.text.now ≡ 40 = omega arith in
    rw c.from_residual-in_err-third.ensures (forty_none_2 c.args.text.now n c.in_ok-first.first c.in_ok-first.ensures c.in_ok-second.second c.in_ok-second.ensures c.in_err-third.ensures)

pub returns-in_err-fourth : goal.returns-in_err-fourth
returns-in_err-fourth c =
    let n : length c.args.text.now ≡ 40 = omega arith in
    rw c.from_residual-in_err-fourth.ensures (forty_none_3 c.args.text.now n c.in_ok-first.first c.in_ok-first.ensures c.in_ok-second.second c.in_ok-second.ensures c.in_ok-third.third c.in_ok-third.ensures c.in_err-fourth.ensures)

pub returns-in_err-fifth : goal.returns-in_err-fifth
returns-in_err-fifth c =
    let n : length c.args.text.now ≡ 40 = omega arith in
    rw c.from_residual-in_err-fifth.ensures (forty_none_4 c.args.text.now n c.in_ok-first.first c.in_ok-first.ensures c.in_ok-second.second c.in_ok-second.ensures c.in_ok-third.third c.in_ok-third.ensures c.in_ok-fourth.fourth c.in_ok-fourth.ensures c.in_err-fifth.ensures)

pub returns : goal.returns
returns c =
    let n : length c.args.text.now ≡ 40 = omega arith in
    forty_some c.args.text.now n
    c.in_ok-first.first c.in_ok-first.ensures
    c.in_ok-second.second c.in_ok-second.ensures
    c.in_ok-third.third c.in_ok-third.ensures
    c.in_ok-fourth.fourth c.in_ok-fourth.ensures
    c.in_ok-fifth.fifth c.in_ok-fifth.ensures
