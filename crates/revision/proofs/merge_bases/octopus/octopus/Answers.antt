use Rattle.std.proofs.Common.{◌≡◌, List, length, None, sym, ap, ◌∙◌, arith}
use Rattle.std.proofs.lemmas.List.{length-map}
use Rattle.ancestry.proofs.Library.{all-same}
use Rattle.ancestry.specs.Asking.{space_of, denied}
use Rattle.ancestry.specs.Bases.{octopus, best, ids, head, shared_by_all}
use Rattle.ancestry.specs.Ids.{num, nums, num_if}
use Rattle.ancestry.specs.Commits.{Commit}
use Rattle.revision.proofs.Members.{every_some, octopus_plain, octopus_walked, Enough, enough, nothing_refuses, answered}
use Rattle.revision.proofs.merge_bases.octopus.octopus.Goals as goal
use Rattle.revision.proofs.merge_bases.octopus.octopus.Goals.{In_ok-suffice, After-find_common}

-- nothing refuses
free : (g : _) (c : In_ok-suffice g) → denied (space_of (length c.args.space.marks.now) (length c.args.space.queue.now) (length c.args.space.stack.now) (length c.args.answers.now)) (length (g.H.Reader.commits c.args.history.now)) (length c.args.others.now) ≡ None
free g c = nothing_refuses _ _ _ _ _ tt _ c.in_ok-suffice.was c.suffice.ensures c.of-sizes.ensures c.count-count.ensures.answer

-- so that what is lent suffices
lent : (g : _) (c : In_ok-suffice g) → Enough (space_of (length c.args.space.marks.now) (length c.args.space.queue.now) (length c.args.space.stack.now) (length c.args.answers.now)) (length (g.H.Reader.commits c.args.history.now))
lent g c = enough _ _ _ (free g c)

pub bounds-answers-0 : goal.bounds-answers-0
bounds-answers-0 g c = omega (arith, (lent g (goal.at.bounds-answers-0 g c).In_ok-suffice).answers)

pub returns-then-all_same-clause-answer : goal.returns-then-all_same-clause-answer
returns-then-all_same-clause-answer g c = answered _ _ _ (free g (goal.at.returns-then-all_same-clause-answer g c).In_ok-suffice) (octopus_plain _ _ _ (sym (all-same c.args.first c.args.others.now) ∙ sym c.all_same.ensures ∙ c.if-all_same.true))

pub new-search-requires : goal.new-search-requires
new-search-requires g c =
    let h = lent g (goal.at.new-search-requires g c).In_ok-suffice in
    let e = c.count-count.ensures.answer in
    record { marks = omega (arith, h.marks, e); queue = omega (arith, h.queue, e); stack = omega (arith, h.stack, e) }

pub find_common-requires-clause-some : goal.find_common-requires-clause-some
find_common-requires-clause-some g c =
    omega (arith, length-map c.args.others.now num, every_some (num c.args.first) (nums c.args.others.now) (sym (all-same c.args.first c.args.others.now) ∙ sym c.all_same.ensures ∙ c.if-all_same.false))

-- the commit found is the one that is asked for
found : (g : _) (c : After-find_common g) → num_if c.find_common.result ≡ octopus (g.H.Reader.commits c.args.history.now) (num c.args.first) (nums c.args.others.now)
found g c =
    let f = num c.args.first in
    let zs = nums c.args.others.now in
    octopus_walked _ f zs _ (sym (all-same c.args.first c.args.others.now) ∙ sym c.all_same.ensures ∙ c.if-all_same.false)
    (c.find_common.ensures.answer ∙ ap (λ (x : List Commit). head (ids x (best x (shared_by_all x f zs)))) c.count-count.ensures.same.list)

pub returns-in_default-clause-answer : goal.returns-in_default-clause-answer
returns-in_default-clause-answer g c =
    let w = goal.at.returns-in_default-clause-answer g c in
    answered _ _ _ (free g w.In_ok-suffice) (ap num_if (sym c.in_default.is) ∙ found g w.After-find_common)

pub bounds-answers-0-2 : goal.bounds-answers-0-2
bounds-answers-0-2 g c = omega (arith, (lent g (goal.at.bounds-answers-0-2 g c).In_ok-suffice).answers)

pub returns-clause-answer : goal.returns-clause-answer
returns-clause-answer g c =
    let w = goal.at.returns-clause-answer g c in
    answered _ _ _ (free g w.In_ok-suffice) (ap num_if (sym c.in-Some.is) ∙ found g w.After-find_common)
