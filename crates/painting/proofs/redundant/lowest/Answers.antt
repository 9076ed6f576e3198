use Rattle.std.proofs.Common.{◌≡◌, ℕ, ◌≤◌, min, true, List, length, get_or, take, sym, ap, ◌∙◌, subst, ⊎_elim, arith}
use Rattle.std.proofs.lemmas.List.{take_all}
use Rattle.ancestry.specs.Commits.{Commit}
use Rattle.ancestry.specs.Sets.{member}
use Rattle.ancestry.proofs.Unique.{member-nil}
use Rattle.history.proofs.Sames.{same_self, same_then}
use Rattle.painting.specs.Walks.{level}
use Rattle.painting.proofs.Left.{getD-member, member_more}
use Rattle.painting.proofs.redundant.lowest.Goals as goal

pub loop-place-init : goal.loop-place-init
loop-place-init g c = (same_self _ c.requires.whole, λ p m. absurd (member-nil p m))

pub keyed-requires : goal.keyed-requires
keyed-requires g c =
    let s = c.loop-place.invariant.0 in
    let ps = c.args.places.now in
    let i = c.loop-place.place-index in
    record { whole = s.still; below = omega (arith, ap length s.list, c.requires.inside (get_or ps i 0) (getD-member ps i c.loop-place-test.true)) }

pub loop-place-preserved : goal.loop-place-preserved
loop-place-preserved g c =
    let s = c.loop-place.invariant.0 in
    let H = g.H.Reader.commits c.args.history.now in
    let ps = c.args.places.now in
    let i = c.loop-place.place-index in
    let x = get_or ps i 0 in
    let k : c.keyed.result.generation ≡ level H x = c.keyed.ensures.keys.generation ∙ ap (λ (G : List Commit). level G x) s.list in
    let m : c.min-low.result ≡ min c.loop-place.low c.keyed.result.generation = c.min-low.ensures in (
      same_then s c.keyed.ensures.same,
      λ p h. ⊎_elim
          (λ (o : member p (take i ps) ≡ true). let a : c.loop-place.low ≤ level H p = c.loop-place.invariant.1 p o in omega arith)
          (λ (o : p ≡ x). let a : level H p ≡ level H x = ap (level H) o in omega arith)
          (member_more p ps i c.loop-place-test.true h),
    )

pub returns : goal.returns
returns g c =
    let ps = c.args.places.now in
    record {
      same = c.loop-place.invariant.0;
      least = λ p m. c.loop-place.invariant.1 p (subst (λ (l : List ℕ). member p l ≡ true) (sym (take_all c.loop-place.place-index ps c.loop-place-test.false)) m);
    }
