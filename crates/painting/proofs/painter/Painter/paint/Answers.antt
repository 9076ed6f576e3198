use Rattle.std.proofs.Common.{◌≡◌, ◌<◌, true, List, ◌∷◌, length, sym, ap, ◌∙◌, subst, arith, length-set}
use Rattle.std.specs.List.Sorted.{IsPermutation}
use Rattle.history.proofs.Sames.{same_self}
use Rattle.queue.specs.Queues.{waiting}
use Rattle.queue.specs.declared.lent.Queue.{Queue}
use Rattle.queue.specs.declared.kinds.Keyed.{Keyed}
use Rattle.painting.specs.Bits.{flags}
use Rattle.painting.specs.Listings.{listed, room}
use Rattle.painting.specs.Marks.{mark, turn, newly, total, cost}
use Rattle.painting.specs.Painted.{Kept, Noted, Good, Unmet}
use Rattle.painting.specs.Painters.{Ready, Goes}
use Rattle.painting.specs.declared.marks.Mark.{Mark}
use Rattle.painting.specs.declared.places.Places.{Places}
use Rattle.painting.proofs.Codes.{length-flags}
use Rattle.painting.proofs.Counts.{took_best, take_some, taken-waits, waiting_inside, kept_taken, turn_written, cost-turn}
use Rattle.painting.proofs.Going.{goes_then}
use Rattle.painting.proofs.Notes.{noted_new, noted_old, unmet-turn, room_noted}
use Rattle.painting.proofs.Turns.{good_turn}
use Rattle.painting.proofs.painter.Painter.paint.Goals as goal
use Rattle.painting.proofs.painter.Painter.paint.Goals.{then-is_newly_result, else-is_newly_result, After-unwrap-place, After-set, After-tell_parents}

pub unwrap-place-requires : goal.unwrap-place-requires
unwrap-place-requires g c = take_some (flags c.loop-self.self.marks.now) c.loop-self.self.queue.now c.take.new.self c.loop-self.self.live c.take.result c.loop-self.invariant.0.ready.kept c.loop-self-test.true c.take.ensures.answer

-- what the queue gave
took : (g : _) (c : goal.After-unwrap-place g) → IsPermutation (waiting c.loop-self.self.queue.now) (c.unwrap-place.result ∷ waiting c.take.new.self)
took g c = (took_best c.loop-self.self.queue.now c.take.new.self c.take.result c.unwrap-place.result c.take.ensures.answer c.unwrap-place.ensures).0

waited : (g : _) (c : goal.After-unwrap-place g) → (mark (flags c.loop-self.self.marks.now) c.unwrap-place.result.place).waiting ≡ true
waited g c = taken-waits (flags c.loop-self.self.marks.now) c.loop-self.self.queue.now (waiting c.take.new.self) c.loop-self.self.live c.unwrap-place.result c.loop-self.invariant.0.ready.kept (took g c)

inside : (g : _) (c : goal.After-unwrap-place g) → c.unwrap-place.result.place < length (flags c.loop-self.self.marks.now)
inside g c = waiting_inside (flags c.loop-self.self.marks.now) c.unwrap-place.result.place (waited g c)

marked : (g : _) (c : goal.After-unwrap-place g) → c.unwrap-place.result.place < length c.loop-self.self.marks.now
marked g c = omega (arith, inside g c, length-flags c.loop-self.self.marks.now)

pub mark-mark-requires : goal.mark-mark-requires
mark-mark-requires g c = marked g (goal.at.mark-mark-requires g c).After-unwrap-place

pub set-requires-clause-below : goal.set-requires-clause-below
set-requires-clause-below g c = marked g (goal.at.set-requires-clause-below g c).After-unwrap-place

pub push-requires : goal.push-requires
push-requires g c =
    let b = (goal.at.push-requires g c).After-unwrap-place in
    let i = c.loop-self.invariant in
    omega (arith, room_noted (flags c.loop-self.self.marks.now) c.unwrap-place.result.place (listed c.loop-self.results) (inside g b) i.2 (ap newly (sym c.mark-mark.ensures) ∙ sym c.is_newly_result.ensures ∙ c.if-is_newly_result.true), length-flags c.loop-self.self.marks.now, i.0.ready.size, ap length i.0.same.list, c.requires.room, i.4)

-- the painter once a place is taken
ready : (g : _) (c : goal.After-set g) → IsPermutation (waiting c.loop-self.self.queue.now) (c.unwrap-place.result ∷ waiting c.take.new.self) → Ready g.H.Reader c.loop-self.history c.set.new.self
ready g c took =
    let ms = flags c.loop-self.self.marks.now in
    let n = c.settled.result in
    let k = c.loop-self.invariant.0.ready in
    record {
      still = k.still;
      size = omega (arith, ap length c.set.ensures.marks, length-flags c.set.new.self.marks.now, length-set ms c.unwrap-place.result.place n, length-flags c.loop-self.self.marks.now, k.size);
      kept = subst (λ (q : Queue Keyed). Kept (flags c.set.new.self.marks.now) q c.set.new.self.live) (sym c.set.ensures.queue)
          (kept_taken ms (flags c.set.new.self.marks.now) c.loop-self.self.queue.now c.take.new.self c.loop-self.self.live c.set.new.self.live c.unwrap-place.result n k.kept c.take.ensures.whole c.take.ensures.room took (ap (λ (m : Mark). m.waiting) c.settled.ensures) c.set.ensures.marks c.set.ensures.alive);
    }

pub tell_parents-requires-clause-ready : goal.tell_parents-requires-clause-ready
tell_parents-requires-clause-ready g c = let w = goal.at.tell_parents-requires-clause-ready g c in ready g w.After-set (took g w.After-unwrap-place)

pub tell_parents-requires-clause-below : goal.tell_parents-requires-clause-below
tell_parents-requires-clause-below g c = omega (arith, marked g (goal.at.tell_parents-requires-clause-below g c).After-unwrap-place, c.loop-self.invariant.0.ready.size)

-- the marks after a turn
turned : (g : _) (c : goal.After-tell_parents g) → flags c.tell_parents.new.self.marks.now ≡ turn (g.H.Reader.commits c.args.history.now) c.unwrap-place.result.place (flags c.loop-self.self.marks.now)
turned g c = turn_written (g.H.Reader.commits c.args.history.now) (g.H.Reader.commits c.loop-self.history) c.unwrap-place.result.place (flags c.loop-self.self.marks.now) (flags c.set.new.self.marks.now) (flags c.tell_parents.new.self.marks.now)
    c.mark-mark.result c.settled.result c.passed_on.result c.loop-self.invariant.0.same.list c.mark-mark.ensures c.settled.ensures c.passed_on.ensures c.set.ensures.marks c.tell_parents.ensures.marks

pub loop-self-smaller : goal.loop-self-smaller
loop-self-smaller g c =
    let b = (goal.at.loop-self-smaller g c).After-unwrap-place in
    omega (arith, ap (total cost) (turned g c), cost-turn (g.H.Reader.commits c.args.history.now) c.unwrap-place.result.place (flags c.loop-self.self.marks.now) (inside g b) (waited g b))

pub loop-self-preserved : goal.loop-self-preserved
loop-self-preserved g c =
    let b = (goal.at.loop-self-preserved g c).After-unwrap-place in
    let H = g.H.Reader.commits c.args.history.now in
    let L = (g.H.Reader.lawful c.args.history.now c.requires.ready.still).lawful in
    let ms = flags c.loop-self.self.marks.now in
    let p = c.unwrap-place.result.place in
    let i = c.loop-self.invariant in
    let e = turned g c in
    let R = g.H.Reader in
    let s : Goes R c.loop-self.history c.loop-self.history c.loop-self.self c.set.new.self = record { same = same_self _ i.0.ready.still; held = c.set.ensures.held; ready = ready g (goal.at.loop-self-preserved g c).After-set (took g b) } in
    let n : length ms ≡ length H = omega (arith, length-flags c.loop-self.self.marks.now, i.0.ready.size, ap length i.0.same.list) in
    let noted : Noted (turn H p ms) (listed c.if-is_newly_result.results) = elim c.if-is_newly_result.branch [
      | then-is_newly_result w ↦ subst (Noted (turn H p ms)) (sym (ap listed w.results-is ∙ w.push.ensures.listed)) (noted_new H p ms (listed c.loop-self.results) (inside g b) (ap newly (sym c.mark-mark.ensures) ∙ sym c.is_newly_result.ensures ∙ w.if-is_newly_result.true) i.2)
      | else-is_newly_result w ↦ subst (Noted (turn H p ms)) (sym (ap listed w.results-is)) (noted_old H p ms (listed c.loop-self.results) (inside g b) (ap newly (sym c.mark-mark.ensures) ∙ sym c.is_newly_result.ensures ∙ w.if-is_newly_result.false) i.2)
    ] in
    let size : room c.if-is_newly_result.results ≡ room c.loop-self.results = elim c.if-is_newly_result.branch [
      | then-is_newly_result w ↦ ap room w.results-is ∙ w.push.ensures.room
      | else-is_newly_result w ↦ ap room w.results-is
    ] in
    let held : c.if-is_newly_result.results.slots.ghost_name ≡ c.loop-self.results.slots.ghost_name = elim c.if-is_newly_result.branch [
      | then-is_newly_result w ↦ ap (λ (p : Places). p.slots.ghost_name) w.results-is ∙ w.push.ensures.held
      | else-is_newly_result w ↦ ap (λ (p : Places). p.slots.ghost_name) w.results-is
    ] in (
      goes_then i.0 (goes_then s c.tell_parents.ensures.goes),
      λ A B da db go. subst (Good H A B) (sym e) (good_turn H A B L da db ms p n (omega (arith, inside g b)) (i.1 A B da db go)),
      subst (λ (x : List Mark). Noted x (listed c.if-is_newly_result.results)) (sym e) noted,
      subst Unmet (sym e) (unmet-turn H p ms i.3),
      size ∙ i.4,
      held ∙ i.5,
    )
