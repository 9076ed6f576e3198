use Rattle.std.proofs.Common.{rules}
use Rattle.std.proofs.lemmas.List.{take_rest}
use Rattle.lines.proofs.Parting.{parted_at_feed, parted_whole}
use Rattle.lines.proofs.line.next_line.Goals as goal

pub returns-in-Some : goal.returns-in-Some
returns-in-Some c =
    let t = c.args.text.now in
    let n = c.in-Some.end in
    let parted = parted_at_feed t n (search rules) (search rules) (search rules) in
    record { line = parted.line; rest = rw take_rest parted.rest; lines = rw take_rest parted.lines; shorter = λ _. search rules }

pub returns-in-None : goal.returns-in-None
returns-in-None c =
    let parted = parted_whole c.args.text.now (search rules) in
    record { line = parted.line; rest = parted.rest; lines = parted.lines; shorter = search rules }
