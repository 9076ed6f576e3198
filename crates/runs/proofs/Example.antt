-- The example is computed.
use Rattle.std.proofs.Common.{refl}
use Rattle.ancestry.specs.Sets.{any, every, member, keep, insert, ordered, next, absent}
use Rattle.ancestry.specs.Commits.{at, place_of}
use Rattle.ancestry.specs.Reaching.{within, reaches, reached_from, id_reaches}
use Rattle.ancestry.specs.Keys.{rank, eqZ, newer, better}
use Rattle.ancestry.specs.Bases.{ranked, unreached, best, ids, shared, empty, bases, shared_by_all, head, octopus}
use Rattle.ancestry.specs.Intake.{in_range, too_high, exceeds, applies, first_that, refusal}
use Rattle.ancestry.specs.Asking.{short, denied}
use Rattle.ancestry.specs.Cases.{plain, history_k}
use Rattle.runs.specs.Runs.{taken}
use Rattle.runs.specs.Example.{criss_cross, Example}
use Rattle.runs.proofs.Steps.{Steps, cuts}

opened : Unit {0}
unfolding any every member keep insert ordered next absent at place_of within reaches reached_from id_reaches rank eqZ newer better ranked unreached best ids shared empty bases shared_by_all head octopus in_range too_high exceeds applies first_that refusal short denied plain history_k taken Steps
opened = tt

each : Steps criss_cross.room criss_cross.start criss_cross.events
unfolding opened
each = (refl, (refl, (refl, (refl, (refl, (refl, (refl, (refl, (refl, (refl, (refl, (refl, (refl, (refl, tt))))))))))))))

pub example : Example
unfolding opened
example = record { list = refl; right = cuts criss_cross.room criss_cross.start criss_cross.events each }
