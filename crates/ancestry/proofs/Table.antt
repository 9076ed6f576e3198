-- Each case of the table is computed.
use Rattle.std.proofs.Common.{refl}
use Rattle.ancestry.specs.Sets.{any, every, member, keep, insert, ordered, next, index_of, absent}
use Rattle.ancestry.specs.Commits.{at, place_of}
use Rattle.ancestry.specs.Reaching.{within, reaches, reached_from, id_reaches}
use Rattle.ancestry.specs.Keys.{rank, eqZ, newer, better}
use Rattle.ancestry.specs.Bases.{ranked, unreached, best, ids, shared, empty, bases, shared_by_all, head, octopus}
use Rattle.ancestry.specs.Naming.{no_name, front, followed}
use Rattle.ancestry.specs.Walk.{by_date, first_of, gains, least, has_all, has_least, taken, adopted, set_aside, counted, ended, handed, onward, free, visit, take_turn, turn, walk, at_start}
use Rattle.ancestry.specs.Finish.{returned, back, finish_turn, finish_step, finish}
use Rattle.ancestry.specs.Describe.{earliest, settle, choose, from_start, unless_idle, unless_named, describe}
use Rattle.ancestry.specs.Cases.{plain, levelled, history_k, history_s, history_long, history_tied, history_absent, history_levels, history_fork, history_line, history_wide, history_twins, rungs, history_ladder, asks, asks_first, first_half, second_half, AllRight, Table}

-- the definitions that the cases compute with
opened : Unit {0}
unfolding any every member keep insert ordered next index_of absent at place_of within reaches reached_from id_reaches rank eqZ newer better ranked unreached best ids shared empty bases shared_by_all head octopus no_name front followed by_date first_of gains least has_all has_least taken adopted set_aside counted ended handed onward free visit take_turn turn walk at_start returned back finish_turn finish_step finish earliest settle choose from_start unless_idle unless_named describe plain levelled history_k history_s history_long history_tied history_absent history_levels history_fork history_line history_wide history_twins rungs history_ladder asks asks_first
opened = tt

first_right : AllRight first_half
unfolding opened
first_right = (refl, (refl, (refl, (refl, (refl, (refl, (refl, (refl, (refl, (refl, (refl, (refl, tt))))))))))))

second_right : AllRight second_half
unfolding opened
second_right = (refl, (refl, (refl, (refl, (refl, (refl, (refl, (refl, (refl, (refl, (refl, (refl, (refl, (refl, (refl, (refl, (refl, tt)))))))))))))))))

pub table_stands : Table
table_stands = (first_right, second_right)
