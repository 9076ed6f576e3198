use Rattle.std.proofs.Common.{◌≡◌, true, ◌⊎◌, List, [], ◌∷◌, length, take, None, sym, ap, ◌∙◌, inl, inr, arith}
use Rattle.ancestry.proofs.Library.{any-same}
use Rattle.std.proofs.lemmas.List.{length-take-le, length-map}
use Rattle.std.proofs.lemmas.Bool.{eqb-true, eqb-false}
use Rattle.ancestry.specs.Sets.{member}
use Rattle.ancestry.specs.Asking.{space_of, denied}
use Rattle.ancestry.specs.Bases.{bases, best, ids, shared}
use Rattle.ancestry.specs.Ids.{num, nums}
use Rattle.ancestry.specs.Commits.{Commit}
use Rattle.revision.proofs.Members.{bases_plain, bases_walked, plain_slots, Enough, enough, nothing_refuses, answered}
use Rattle.revision.proofs.merge_bases.function.merge_base.Goals as goal
use Rattle.revision.proofs.merge_bases.function.merge_base.Goals.{In_ok-suffice, Joined-then-is_empty, After-find_bases, then-is_empty-via-then-is_empty, then-is_empty-via-else-is_empty+then-contains}

-- nothing refuses
free : (g : _) (c : In_ok-suffice g) → denied (space_of (length c.args.space.marks.now) (length c.args.space.queue.now) (length c.args.space.stack.now) (length c.args.answers.now)) (length (g.H.Reader.commits c.args.history.now)) (length c.args.others.now) ≡ None
free g c = nothing_refuses _ _ _ _ _ tt _ c.in_ok-suffice.was c.suffice.ensures c.of-sizes.ensures c.count-count.ensures.answer

-- so that what is lent suffices
lent : (g : _) (c : In_ok-suffice g) → Enough (space_of (length c.args.space.marks.now) (length c.args.space.queue.now) (length c.args.space.stack.now) (length c.args.answers.now)) (length (g.H.Reader.commits c.args.history.now))
lent g c = enough _ _ _ (free g c)

pub bounds-answers-0 : goal.bounds-answers-0
bounds-answers-0 g c = omega (arith, (lent g (goal.at.bounds-answers-0 g c).In_ok-suffice).answers)

-- the answer is the first commit
plain : (g : _) (c : Joined-then-is_empty g) → bases (g.H.Reader.commits c.args.history.now) (num c.args.first) (nums c.args.others.now) ≡ num c.args.first ∷ []
plain g c =
    let zs = c.args.others.now in
    let why : (length (nums zs) ≡ 0) ⊎ (member (num c.args.first) (nums zs) ≡ true) = elim c.then-is_empty.branch [
      | then-is_empty-via-then-is_empty w ↦ inl (length-map zs num ∙ eqb-true (length zs) 0 (sym c.is_empty.ensures ∙ w.if-is_empty.true))
      | then-is_empty-via-else-is_empty+then-contains w ↦ inr (sym (w.contains.ensures ∙ any-same _ _) ∙ w.if-contains.true)
    ] in
    bases_plain (g.H.Reader.commits c.args.history.now) (num c.args.first) (nums zs) why

pub returns-then-is_empty-clause-answer : goal.returns-then-is_empty-clause-answer
returns-then-is_empty-clause-answer g c = answered _ _ 1 (free g (goal.at.returns-then-is_empty-clause-answer g c).In_ok-suffice) (sym (ap length (plain g c)))

pub returns-then-is_empty-clause-slots : goal.returns-then-is_empty-clause-slots
returns-then-is_empty-clause-slots g c = plain_slots _ c.args.first c.args.answers.now (plain g c) (omega (arith, (lent g (goal.at.returns-then-is_empty-clause-slots g c).In_ok-suffice).answers))

pub new-search-requires : goal.new-search-requires
new-search-requires g c =
    let h = lent g (goal.at.new-search-requires g c).In_ok-suffice in
    let e = c.count-count.ensures.answer in
    record { marks = omega (arith, h.marks, e); queue = omega (arith, h.queue, e); stack = omega (arith, h.stack, e) }

pub find_bases-requires-clause-answers : goal.find_bases-requires-clause-answers
find_bases-requires-clause-answers g c = omega (arith, (lent g (goal.at.find_bases-requires-clause-answers g c).In_ok-suffice).answers, ap length c.count-count.ensures.same.list)

-- what is written is what is asked for
written : (g : _) (c : After-find_bases g) → nums (take c.find_bases.result c.find_bases.new.answers) ≡ bases (g.H.Reader.commits c.args.history.now) (num c.args.first) (nums c.args.others.now)
written g c =
    let H = g.H.Reader.commits c.args.history.now in
    let f = num c.args.first in
    let zs = c.args.others.now in
    c.find_bases.ensures.written
    ∙ ap (λ (x : List Commit). ids x (best x (shared x f (nums zs)))) c.count-count.ensures.same.list
    ∙ sym (bases_walked H f (nums zs) (λ e. eqb-false (length zs) 0 (sym c.is_empty.ensures ∙ c.if-is_empty.false) (sym (length-map zs num) ∙ e)) (sym (c.contains.ensures ∙ any-same _ _) ∙ c.if-contains.false))

pub returns-clause-answer : goal.returns-clause-answer
returns-clause-answer g c =
    let w = goal.at.returns-clause-answer g c in
    let r = c.find_bases in
    let n = length-take-le r.result r.new.answers (omega (arith, r.ensures.few, ap length c.count-count.ensures.same.list, (lent g w.In_ok-suffice).answers, r.auto.answers)) in
    answered _ _ r.result (free g w.In_ok-suffice) (sym n ∙ sym (length-map (take r.result r.new.answers) num) ∙ ap length (written g w.After-find_bases))

pub returns-clause-slots : goal.returns-clause-slots
returns-clause-slots g c = (written g (goal.at.returns-clause-slots g c).After-find_bases, c.find_bases.ensures.beyond)
