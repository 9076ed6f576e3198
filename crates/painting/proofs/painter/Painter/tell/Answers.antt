use Rattle.std.proofs.Common.{◌≡◌, ℕ, ◌<◌, true, not, List, length, set, MutBor, sym, ap, ◌∙◌, subst, arith, length-set}
use Rattle.std.proofs.lemmas.Bool.{not-true, not-false, lt-ltb}
use Rattle.history.specs.Meaning.{Same}
use Rattle.history.proofs.Sames.{same_self}
use Rattle.painting.specs.Marks.{mark, covers, joined}
use Rattle.painting.specs.Bits.{flags}
use Rattle.painting.specs.Painted.{Kept}
use Rattle.queue.specs.Queues.{waiting, room}
use Rattle.queue.specs.declared.kinds.Keyed.{Keyed}
use Rattle.queue.specs.declared.lent.Queue.{Queue}
use Rattle.painting.specs.declared.marks.Mark.{Mark}
use Rattle.painting.specs.declared.painter.Painter.{Painter}
use Rattle.painting.proofs.Codes.{length-flags}
use Rattle.painting.proofs.Counts.{hand_yes, hand_no, free-room, inserted, kept_put, kept_same}
use Rattle.painting.proofs.painter.Painter.tell.Goals as goal
use Rattle.painting.proofs.painter.Painter.tell.Goals.{then-not-mark, else-not-mark, After-covers}

pub returns-then-covers-clause-marks : goal.returns-then-covers-clause-marks
returns-then-covers-clause-marks g c = hand_yes _ _ _ (sym (c.covers.ensures ∙ ap (λ (m : Mark). covers m c.args.told) c.mark-mark.ensures) ∙ c.if-covers.true)

-- the place has a mark
inside : (g : _) (c : goal.After-covers g) → c.args.place < length (flags c.args.self.now.marks.now)
inside g c = omega (arith, length-flags c.args.self.now.marks.now, c.requires.ready.size, c.requires.below)

-- the queue has room for a place that does not wait
free : (g : _) (c : goal.After-covers g) → not c.mark-mark.result.waiting ≡ true → length (waiting c.args.self.now.queue.now) < room c.args.self.now.queue.now
free g c h = free-room _ _ _ c.args.place c.requires.ready.kept (inside g c) (ap (λ (m : Mark). m.waiting) (sym c.mark-mark.ensures) ∙ not-true _ h)

pub unwrap-requires : goal.unwrap-requires
unwrap-requires g c = c.insert.ensures.accepted ∙ lt-ltb _ _ (free g (goal.at.unwrap-requires g c).After-covers c.if-not-mark.true)

-- the queue alone has changed before the mark is written
still : (g : _) (c : goal.After-set g) → c.if-not-mark.self.marks ≡ c.args.self.now.marks
still g c = elim c.if-not-mark.branch [
  | then-not-mark w ↦ ap (λ (p : Painter). p.marks) w.self-is
  | else-not-mark w ↦ ap (λ (p : Painter). p.marks) w.self-is
]

written : (g : _) (c : goal.After-set g) → flags c.set.new.self.marks.now ≡ set (flags c.args.self.now.marks.now) c.args.place c.joined.result
written g c = c.set.ensures.marks ∙ ap (λ (m : MutBor (List ℕ)). set (flags m.now) c.args.place c.joined.result) (still g c)

pub returns-clause-goes : goal.returns-clause-goes
returns-clause-goes g c =
    let ms = flags c.args.self.now.marks.now in
    let l = inside g (goal.at.returns-clause-goes g c).After-covers in
    let R = g.H.Reader in
    let s : Same R.whole R.commits R.room c.args.history.now c.if-not-mark.history = elim c.if-not-mark.branch [
      | then-not-mark w ↦ subst (Same R.whole R.commits R.room c.args.history.now) (sym w.history-is) w.keyed.ensures.same
      | else-not-mark w ↦ subst (Same R.whole R.commits R.room c.args.history.now) (sym w.history-is) (same_self _ c.requires.ready.still)
    ] in
    let k : Kept (flags c.set.new.self.marks.now) c.if-not-mark.self.queue.now c.set.new.self.live = elim c.if-not-mark.branch [
      | then-not-mark w ↦ subst (λ (p : Painter). Kept (flags c.set.new.self.marks.now) p.queue.now c.set.new.self.live) (sym w.self-is)
          (kept_put ms (flags c.set.new.self.marks.now) c.args.self.now.queue.now w.insert.new.self c.args.self.now.live c.set.new.self.live c.args.place c.joined.result w.keyed.result c.requires.ready.kept l (ap (λ (m : Mark). m.waiting) (sym c.mark-mark.ensures) ∙ not-true _ w.if-not-mark.true) (ap (λ (m : Mark). m.waiting) c.joined.ensures)
          w.insert.ensures.whole w.insert.ensures.room (inserted w.keyed.result c.args.self.now.queue.now w.insert.new.self w.insert.result w.insert.ensures.answer (w.insert.ensures.accepted ∙ lt-ltb _ _ (free g (goal.at.returns-clause-goes g c).After-covers w.if-not-mark.true))) w.keyed.ensures.keys.place (written g c) c.set.ensures.alive)
      | else-not-mark w ↦ subst (λ (p : Painter). Kept (flags c.set.new.self.marks.now) p.queue.now c.set.new.self.live) (sym w.self-is)
          (kept_same ms (flags c.set.new.self.marks.now) c.args.self.now.queue.now c.args.self.now.live c.set.new.self.live c.args.place c.joined.result c.requires.ready.kept l (ap (λ (m : Mark). m.waiting) (sym c.mark-mark.ensures) ∙ not-false _ w.if-not-mark.false) (ap (λ (m : Mark). m.waiting) c.joined.ensures)
          (written g c) c.set.ensures.alive)
    ] in
    record {
      same = s;
      held = c.set.ensures.held ∙ ap (λ (m : MutBor (List ℕ)). m.ghost_name) (still g c);
      ready = record {
        still = s.still;
        size = omega (arith, ap length (written g c), length-flags c.set.new.self.marks.now, length-set ms c.args.place c.joined.result, length-flags c.args.self.now.marks.now, c.requires.ready.size, ap length s.list);
        kept = subst (λ (q : Queue Keyed). Kept (flags c.set.new.self.marks.now) q c.set.new.self.live) (sym c.set.ensures.queue) k;
      };
    }

pub returns-clause-marks : goal.returns-clause-marks
returns-clause-marks g c =
    let m : c.joined.result ≡ joined (mark (flags c.args.self.now.marks.now) c.args.place) c.args.told = c.joined.ensures ∙ ap (λ (m : Mark). joined m c.args.told) c.mark-mark.ensures in
    written g c
    ∙ ap (set (flags c.args.self.now.marks.now) c.args.place) m
    ∙ hand_no _ _ _ (sym (c.covers.ensures ∙ ap (λ (m : Mark). covers m c.args.told) c.mark-mark.ensures) ∙ c.if-covers.false)
