use Rattle.std.proofs.Common.{sym, ap}
use Rattle.ancestry.specs.Intake.{words}
use Rattle.ancestry.proofs.refusal.Refusal.words.Goals as goal

pub returns-in-DateOutOfRange : goal.returns-in-DateOutOfRange
returns-in-DateOutOfRange c = sym (ap words c.in-DateOutOfRange.is)

pub returns-in-GenerationTooHigh : goal.returns-in-GenerationTooHigh
returns-in-GenerationTooHigh c = sym (ap words c.in-GenerationTooHigh.is)

pub returns-in-TooManyParents : goal.returns-in-TooManyParents
returns-in-TooManyParents c = sym (ap words c.in-TooManyParents.is)

pub returns-in-IdHeld : goal.returns-in-IdHeld
returns-in-IdHeld c = sym (ap words c.in-IdHeld.is)

pub returns-in-NoSuchParent : goal.returns-in-NoSuchParent
returns-in-NoSuchParent c = sym (ap words c.in-NoSuchParent.is)

pub returns-in-GenerationRises : goal.returns-in-GenerationRises
returns-in-GenerationRises c = sym (ap words c.in-GenerationRises.is)

pub returns-in-Full : goal.returns-in-Full
returns-in-Full c = sym (ap words c.in-Full.is)

pub returns-in-TooManyOthers : goal.returns-in-TooManyOthers
returns-in-TooManyOthers c = sym (ap words c.in-TooManyOthers.is)

pub returns-in-WorkspaceShort : goal.returns-in-WorkspaceShort
returns-in-WorkspaceShort c = sym (ap words c.in-WorkspaceShort.is)
