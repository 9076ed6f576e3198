use Rattle.std.proofs.Common.{◌≡◌, map, take, vec_items}
use Rattle.history.specs.Meaning.{Same}
use Rattle.answering.specs.Answers.{place_in}
use Rattle.orders.specs.Fields.{via}
use Rattle.answering.proofs.carry.parent_places.Given as goal

abbrev pub invariant-loop-parent : goal.invariant-loop-parent
invariant-loop-parent g l =
    Same g.H.Reader.whole g.H.Reader.commits g.H.Reader.room l.initial.history l.history
    × (vec_items l.places ≡ map (place_in (g.H.Reader.commits l.initial.history)) (map via (take l.parent-index l.parents)))
