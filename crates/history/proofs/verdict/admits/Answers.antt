use Rattle.std.proofs.Common.{◌≡◌, ℕ, true, false, leb, List, length, is_some, Option, rules, sym, refl, ap, ◌∙◌, w64, SFits}
use Rattle.std.proofs.lemmas.Int.{to_z-of_z}
use Rattle.std.proofs.lemmas.Bool.{lt-ltb, le-ltb, eq-eqb, ne_eqb}
use Rattle.ancestry.specs.Commits.{Commit, place_of}
use Rattle.ancestry.specs.Ids.{num}
use Rattle.ancestry.specs.Intake.{in_range, exceeds, unless}
use Rattle.ancestry.specs.declared.refusal.Refusal.{Refusal}
use Rattle.ancestry.specs.Sets.{any}
use Rattle.ancestry.proofs.Library.{list_any-any}
use Rattle.history.proofs.Sames.{same_self, same_then}
use Rattle.history.proofs.Verdicts.{some_present, by_tests}
use Rattle.history.proofs.verdict.admits.Goals as goal

pub returns-then-not-in_range : goal.returns-then-not-in_range
returns-then-not-in_range g c =
    let h = c.args.history.now in
    let H = g.H.Reader.commits h in
    let ps = c.args.commit.now.parents.now in
    let f : SFits w64 c.args.commit.now.date = search rules in
    let e0 : in_range c.args.commit.now.date ≡ false = simp to_z-of_z at (sym c.in_range.ensures ∙ c.if-not-in_range.true) in
    record {
      same = same_self h c.requires;
      answer = ap (λ (o : Option Refusal). unless o tt) (by_tests (g.H.Reader.room h) H (num c.args.commit.now.id) c.args.commit.now.generation c.args.commit.now.date ps true _ _ _ _ _ _
          e0
          refl
          refl
          refl
          refl
          refl
          refl);
    }

pub returns-then-too_high : goal.returns-then-too_high
returns-then-too_high g c =
    let h = c.args.history.now in
    let H = g.H.Reader.commits h in
    let ps = c.args.commit.now.parents.now in
    let f : SFits w64 c.args.commit.now.date = search rules in
    let e0 : in_range c.args.commit.now.date ≡ true = simp to_z-of_z at (sym c.in_range.ensures ∙ c.if-not-in_range.false) in
    record {
      same = same_self h c.requires;
      answer = ap (λ (o : Option Refusal). unless o tt) (by_tests (g.H.Reader.room h) H (num c.args.commit.now.id) c.args.commit.now.generation c.args.commit.now.date ps false true _ _ _ _ _
          e0
          (sym c.too_high.ensures ∙ c.if-too_high.true)
          refl
          refl
          refl
          refl
          refl);
    }

pub returns-then-commit-gt-MAX_PARENTS : goal.returns-then-commit-gt-MAX_PARENTS
returns-then-commit-gt-MAX_PARENTS g c =
    let h = c.args.history.now in
    let H = g.H.Reader.commits h in
    let ps = c.args.commit.now.parents.now in
    let f : SFits w64 c.args.commit.now.date = search rules in
    let e0 : in_range c.args.commit.now.date ≡ true = simp to_z-of_z at (sym c.in_range.ensures ∙ c.if-not-in_range.false) in
    record {
      same = same_self h c.requires;
      answer = ap (λ (o : Option Refusal). unless o tt) (by_tests (g.H.Reader.room h) H (num c.args.commit.now.id) c.args.commit.now.generation c.args.commit.now.date ps false false true _ _ _ _
          e0
          (sym c.too_high.ensures ∙ c.if-too_high.false)
          (lt-ltb _ _ c.if-commit-gt-MAX_PARENTS.true)
          refl
          refl
          refl
          refl);
    }

pub returns-then-is_some : goal.returns-then-is_some
returns-then-is_some g c =
    let h = c.args.history.now in
    let H = g.H.Reader.commits h in
    let ps = c.args.commit.now.parents.now in
    let f : SFits w64 c.args.commit.now.date = search rules in
    let e0 : in_range c.args.commit.now.date ≡ true = simp to_z-of_z at (sym c.in_range.ensures ∙ c.if-not-in_range.false) in
    record {
      same = c.find.ensures.same;
      answer = ap (λ (o : Option Refusal). unless o tt) (by_tests (g.H.Reader.room h) H (num c.args.commit.now.id) c.args.commit.now.generation c.args.commit.now.date ps false false false true _ _ _
          e0
          (sym c.too_high.ensures ∙ c.if-too_high.false)
          (le-ltb _ _ c.if-commit-gt-MAX_PARENTS.false)
          (sym (c.is_some.ensures ∙ ap is_some c.find.ensures.answer ∙ some_present (place_of H (num c.args.commit.now.id))) ∙ c.if-is_some.true)
          refl
          refl
          refl);
    }

pub returns-then-no_such : goal.returns-then-no_such
returns-then-no_such g c =
    let h = c.args.history.now in
    let H = g.H.Reader.commits h in
    let ps = c.args.commit.now.parents.now in
    let f : SFits w64 c.args.commit.now.date = search rules in
    let e0 : in_range c.args.commit.now.date ≡ true = simp to_z-of_z at (sym c.in_range.ensures ∙ c.if-not-in_range.false) in
    record {
      same = same_then c.find.ensures.same c.no_such.ensures.same;
      answer = ap (λ (o : Option Refusal). unless o tt) (by_tests (g.H.Reader.room h) H (num c.args.commit.now.id) c.args.commit.now.generation c.args.commit.now.date ps false false false false true _ _
          e0
          (sym c.too_high.ensures ∙ c.if-too_high.false)
          (le-ltb _ _ c.if-commit-gt-MAX_PARENTS.false)
          (sym (c.is_some.ensures ∙ ap is_some c.find.ensures.answer ∙ some_present (place_of H (num c.args.commit.now.id))) ∙ c.if-is_some.false)
          (sym (c.no_such.ensures.answer ∙ list_any-any _ _ ∙ ap (λ (x : List Commit). any (λ p. leb (length x) p) ps) c.find.ensures.same.list) ∙ c.if-no_such.true)
          refl
          refl);
    }

pub returns-then-rises : goal.returns-then-rises
returns-then-rises g c =
    let h = c.args.history.now in
    let H = g.H.Reader.commits h in
    let ps = c.args.commit.now.parents.now in
    let f : SFits w64 c.args.commit.now.date = search rules in
    let e0 : in_range c.args.commit.now.date ≡ true = simp to_z-of_z at (sym c.in_range.ensures ∙ c.if-not-in_range.false) in
    let s5 = same_then c.find.ensures.same c.no_such.ensures.same in
    record {
      same = same_then s5 c.rises.ensures.same;
      answer = ap (λ (o : Option Refusal). unless o tt) (by_tests (g.H.Reader.room h) H (num c.args.commit.now.id) c.args.commit.now.generation c.args.commit.now.date ps false false false false false true _
          e0
          (sym c.too_high.ensures ∙ c.if-too_high.false)
          (le-ltb _ _ c.if-commit-gt-MAX_PARENTS.false)
          (sym (c.is_some.ensures ∙ ap is_some c.find.ensures.answer ∙ some_present (place_of H (num c.args.commit.now.id))) ∙ c.if-is_some.false)
          (sym (c.no_such.ensures.answer ∙ list_any-any _ _ ∙ ap (λ (x : List Commit). any (λ p. leb (length x) p) ps) c.find.ensures.same.list) ∙ c.if-no_such.false)
          (sym (c.rises.ensures.answer ∙ ap (λ (x : List Commit). any (exceeds x c.rank.result) ps) s5.list ∙ ap (λ (n : ℕ). any (exceeds H n) ps) c.rank.ensures) ∙ c.if-rises.true)
          refl);
    }

pub returns-then-count-capacity : goal.returns-then-count-capacity
returns-then-count-capacity g c =
    let h = c.args.history.now in
    let H = g.H.Reader.commits h in
    let ps = c.args.commit.now.parents.now in
    let f : SFits w64 c.args.commit.now.date = search rules in
    let e0 : in_range c.args.commit.now.date ≡ true = simp to_z-of_z at (sym c.in_range.ensures ∙ c.if-not-in_range.false) in
    let s5 = same_then c.find.ensures.same c.no_such.ensures.same in
    let s6 = same_then s5 c.rises.ensures.same in
    let s7 = same_then s6 c.count-count.ensures.same in
    let n = c.count-count.ensures.answer ∙ ap length s6.list in
    let r = c.capacity.ensures.answer ∙ s7.capacity in
    record {
      same = same_then s7 c.capacity.ensures.same;
      answer = ap (λ (o : Option Refusal). unless o tt) (by_tests (g.H.Reader.room h) H (num c.args.commit.now.id) c.args.commit.now.generation c.args.commit.now.date ps false false false false false false true
          e0
          (sym c.too_high.ensures ∙ c.if-too_high.false)
          (le-ltb _ _ c.if-commit-gt-MAX_PARENTS.false)
          (sym (c.is_some.ensures ∙ ap is_some c.find.ensures.answer ∙ some_present (place_of H (num c.args.commit.now.id))) ∙ c.if-is_some.false)
          (sym (c.no_such.ensures.answer ∙ list_any-any _ _ ∙ ap (λ (x : List Commit). any (λ p. leb (length x) p) ps) c.find.ensures.same.list) ∙ c.if-no_such.false)
          (sym (c.rises.ensures.answer ∙ ap (λ (x : List Commit). any (exceeds x c.rank.result) ps) s5.list ∙ ap (λ (n : ℕ). any (exceeds H n) ps) c.rank.ensures) ∙ c.if-rises.false)
          (eq-eqb _ _ (sym n ∙ c.if-count-capacity.true ∙ r)));
    }

pub returns : goal.returns
returns g c =
    let h = c.args.history.now in
    let H = g.H.Reader.commits h in
    let ps = c.args.commit.now.parents.now in
    let f : SFits w64 c.args.commit.now.date = search rules in
    let e0 : in_range c.args.commit.now.date ≡ true = simp to_z-of_z at (sym c.in_range.ensures ∙ c.if-not-in_range.false) in
    let s5 = same_then c.find.ensures.same c.no_such.ensures.same in
    let s6 = same_then s5 c.rises.ensures.same in
    let s7 = same_then s6 c.count-count.ensures.same in
    let n = c.count-count.ensures.answer ∙ ap length s6.list in
    let r = c.capacity.ensures.answer ∙ s7.capacity in
    record {
      same = same_then s7 c.capacity.ensures.same;
      answer = ap (λ (o : Option Refusal). unless o tt) (by_tests (g.H.Reader.room h) H (num c.args.commit.now.id) c.args.commit.now.generation c.args.commit.now.date ps false false false false false false false
          e0
          (sym c.too_high.ensures ∙ c.if-too_high.false)
          (le-ltb _ _ c.if-commit-gt-MAX_PARENTS.false)
          (sym (c.is_some.ensures ∙ ap is_some c.find.ensures.answer ∙ some_present (place_of H (num c.args.commit.now.id))) ∙ c.if-is_some.false)
          (sym (c.no_such.ensures.answer ∙ list_any-any _ _ ∙ ap (λ (x : List Commit). any (λ p. leb (length x) p) ps) c.find.ensures.same.list) ∙ c.if-no_such.false)
          (sym (c.rises.ensures.answer ∙ ap (λ (x : List Commit). any (exceeds x c.rank.result) ps) s5.list ∙ ap (λ (n : ℕ). any (exceeds H n) ps) c.rank.ensures) ∙ c.if-rises.false)
          (ne_eqb _ _ (λ e. c.if-count-capacity.false (n ∙ e ∙ sym r))));
    }
