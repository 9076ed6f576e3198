use Rattle.std.proofs.Common.{◌≡◌, ◌<◌, false, ◌+◌, length, sym, refl, ap, ◌∙◌, arith, length-append}
use Rattle.painting.specs.Bits.{flags}
use Rattle.painting.specs.Listings.{listed}
use Rattle.painting.specs.Marks.{mark, seen, unmet, total}
use Rattle.painting.specs.declared.marks.Mark.{Mark}
use Rattle.painting.proofs.Codes.{length-flags}
use Rattle.painting.proofs.Meets.{meet_met, meet_below, meet-push, unmet-push}
use Rattle.painting.proofs.descent.Descent.meet.Goals as goal
use Rattle.painting.proofs.descent.Descent.meet.Goals.{then-mark-via-then-mark, then-mark-via-else-mark+then-keyed-self, After-mark-mark, After-put}

pub returns-then-mark-clause-walk : goal.returns-then-mark-clause-walk
returns-then-mark-clause-walk g c = elim c.then-mark.branch [
  | then-mark-via-then-mark w ↦ meet_met _ _ _ _ (ap (λ (m : Mark). m.met) (sym c.mark-mark.ensures) ∙ w.if-mark.true)
  | then-mark-via-else-mark+then-keyed-self w ↦ meet_below (g.H.Reader.commits c.args.history.now) c.args.self.now.low c.args.place _ (omega (arith, w.keyed.ensures.keys.generation, w.if-keyed-self.true))
]

-- the place has a mark
inside : (g : _) (c : After-mark-mark g) → c.args.place < length (flags c.args.self.now.marks.now)
inside g c = omega (arith, length-flags c.args.self.now.marks.now, c.requires.ready.size, c.requires.below)

unmarked : (g : _) (c : After-put g) → (mark (flags c.args.self.now.marks.now) c.args.place).met ≡ false
unmarked g c = ap (λ (m : Mark). m.met) (sym c.mark-mark.ensures) ∙ c.if-mark.false

-- one place less is left to be met
fewer : (g : _) (c : After-put g) → total unmet (flags c.put.new.marks) + 1 ≡ total unmet (flags c.args.self.now.marks.now)
fewer g c =
    let ms = flags c.args.self.now.marks.now in
    let l : c.args.place < length ms = omega (arith, length-flags c.args.self.now.marks.now, c.requires.ready.size, c.requires.below) in
    omega (arith, ap (total unmet) c.put.ensures, unmet-push c.args.place ms c.seen.result l (unmarked g c) (c.seen.ensures ∙ ap seen c.mark-mark.ensures))

pub push-requires : goal.push-requires
push-requires g c = omega (arith, fewer g (goal.at.push-requires g c).After-put, c.requires.ready.fits)

pub returns-clause-goes : goal.returns-clause-goes
returns-clause-goes g c =
    let f = fewer g (goal.at.returns-clause-goes g c).After-put in
    let n : length (listed c.push.new.self) ≡ length (listed c.args.self.now.stack.now) + 1 = ap length c.push.ensures.listed ∙ length-append _ _ in
    record {
      same = c.keyed.ensures.same;
      held = refl;
      low = refl;
      fewer = omega (arith, f, n);
      ready = record {
        still = c.keyed.ensures.same.still;
        size = omega (arith, c.put.auto.marks, c.requires.ready.size, ap length c.keyed.ensures.same.list);
        fits = omega (arith, f, n, c.push.ensures.room, c.requires.ready.fits);
      };
    }

pub returns-clause-walk : goal.returns-clause-walk
returns-clause-walk g c =
    let ms = flags c.args.self.now.marks.now in
    rw (c.put.ensures, c.push.ensures.listed)
    (meet-push (g.H.Reader.commits c.args.history.now) c.args.self.now.low c.args.place ms (listed c.args.self.now.stack.now) c.seen.result (unmarked g (goal.at.returns-clause-walk g c).After-put) (omega (arith, c.keyed.ensures.keys.generation, c.if-keyed-self.false)) (c.seen.ensures ∙ ap seen c.mark-mark.ensures))
