use Rattle.std.proofs.Common.{length, arith}
use Rattle.painting.specs.Bits.{flags}
use Rattle.painting.specs.Seeded.{Blank}
use Rattle.painting.proofs.Codes.{length-flags}
use Rattle.painting.proofs.Seeds.{blank_zeros, kept_blank}
use Rattle.painting.proofs.painter.Painter.new.Goals as goal
use Rattle.painting.proofs.painter.Painter.new.Goals.{After-fill}

blank : (c : goal.After-fill) → Blank (flags c.fill.new.self)
blank c = blank_zeros (length c.args.marks.now) c.fill.new.self (c.fill.ensures.after (λ y e. e))

pub returns-clause-blank : goal.returns-clause-blank
returns-clause-blank c = blank (goal.at.returns-clause-blank c).After-fill

pub returns-clause-kept : goal.returns-clause-kept
returns-clause-kept c = kept_blank (flags c.fill.new.self) c.args.queue.now (blank (goal.at.returns-clause-kept c).After-fill) c.requires.whole c.requires.empty (omega (arith, length-flags c.fill.new.self, c.fill.ensures.len, c.requires.space))
