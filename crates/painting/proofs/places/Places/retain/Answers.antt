use Rattle.std.proofs.Common.{◌≡◌, ℕ, ◌<◌, true, length, get_or, take, sym, refl, ◌∙◌, subst, arith, length-set}
use Rattle.std.proofs.lemmas.List.{get_or-set_other}
use Rattle.ancestry.specs.Sets.{member}
use Rattle.painting.specs.Listings.{listed}
use Rattle.painting.proofs.Keeping.{keep_none, keep_taken, keep_passed, taken-member}
use Rattle.painting.proofs.places.Places.retain.Goals as goal
use Rattle.painting.proofs.places.Places.retain.Goals.{then-test, else-test, After-test}

pub loop-i-init : goal.loop-i-init
loop-i-init g c = (λ t h. keep_none t, λ j h. refl, omega arith, refl, refl)

-- what is read is of the list, as it was
read : (g : _) (c : goal.After-test g) → member (get_or c.loop-i.self.slots.now c.loop-i.i 0) (listed c.args.self.now) ≡ true
read g c = subst (λ (x : ℕ). member x (listed c.args.self.now) ≡ true) (sym (c.loop-i.invariant.1 c.loop-i.i (omega arith))) (taken-member _ c.loop-i.i _ c.loop-i-test.true c.args.self.now.fits)

pub test-requires : goal.test-requires
test-requires g c = c.requires _ (subst (λ (x : ℕ). member x (listed c.args.self.now) ≡ true) (sym (c.loop-i.invariant.1 c.loop-i.i (omega arith))) (taken-member _ c.loop-i.i _ c.loop-i-test.true c.args.self.now.fits))

pub loop-i-preserved : goal.loop-i-preserved
loop-i-preserved g c =
    let ps = c.args.self.now.slots.now in
    let ks = c.loop-i.self.slots.now in
    let i = c.loop-i.i in
    let n = c.loop-i.self.len in
    let x = get_or ks i 0 in
    let l : i < length ps = omega (arith, c.args.self.now.fits, c.loop-i-test.true) in
    let m : n < length ks = omega (arith, c.loop-i.invariant.2, c.loop-i.invariant.3) in
    let e : x ≡ get_or ps i 0 = c.loop-i.invariant.1 i (omega arith) in
    let r = read g (goal.at.loop-i-preserved g c).After-test in
    elim c.if-test.branch [
      | then-test w ↦ rw w.self-is (
        λ t k. keep_taken t ks ps i n x l m e (sym (k x c.test.result r c.test.ensures) ∙ w.if-test.true) (c.loop-i.invariant.0 t k),
        λ j h. get_or-set_other ks n j x 0 (omega (arith, c.loop-i.invariant.2)) ∙ c.loop-i.invariant.1 j (omega arith),
        omega (arith, c.loop-i.invariant.2),
        length-set ks n x ∙ c.loop-i.invariant.3,
        c.loop-i.invariant.4,
      )
      | else-test w ↦ rw w.self-is (
        λ t k. keep_passed t (take n ks) ps i x l e (sym (k x c.test.result r c.test.ensures) ∙ w.if-test.false) (c.loop-i.invariant.0 t k),
        λ j h. c.loop-i.invariant.1 j (omega arith),
        omega (arith, c.loop-i.invariant.2),
        c.loop-i.invariant.3,
        c.loop-i.invariant.4,
      )
    ]
