-- Ids in a list, and the answers without a walk.
use Rattle.std.proofs.Common.{◌≡◌, ℕ, ◌+◌, ◌*◌, ◌<◌, ◌≤◌, Bool, true, false, cond, ◌||◌, eqb, ltb, ◌⊎◌, List, [], ◌∷◌, length, take, drop, set, Some, None, Ok, Err, Option, Result, sym, refl, ◌∙◌, subst, inl, inr, arith}
use Rattle.std.proofs.lemmas.Bool.{or_from, or_left, or_right, or_parts, true≢false, ltb-false, lt-ltb, le-ltb}
use Rattle.std.proofs.lemmas.Bool.Decides.{nat_tests}
use Rattle.ancestry.specs.Sets.{every, member}
use Rattle.ancestry.specs.Asking.{Space, short, denied}
use Rattle.ancestry.specs.Intake.{unless}
use Rattle.ancestry.specs.Bases.{best, ids, shared, bases, empty, head, shared_by_all, octopus}
use Rattle.ancestry.specs.Ids.{num, nums}
use Rattle.ancestry.specs.declared.id.Id.{Id}
use Rattle.ancestry.specs.Commits.{Commit}
use Rattle.ancestry.specs.declared.refusal.Refusal.{Refusal}
use Rattle.ancestry.specs.declared.refusal.Refusal.TheVariants.{TooManyOthers, WorkspaceShort}

-- ALL OF A LIST
pub every_some : (f : ℕ) (is : List ℕ) → every (eqb f) is ≡ false → 0 < length is
unfolding every
every_some f [] e = absurd (true≢false e)
every_some f (i ∷ is) e = omega arith

-- THE ANSWERS
empty_is : (is : List ℕ) → empty is ≡ eqb (length is) 0
unfolding empty
empty_is [] = refl
empty_is (i ∷ is) = grind (arith, nat_tests)

-- no walk is needed
pub bases_plain : (H : List Commit) (f : ℕ) (is : List ℕ) → (length is ≡ 0) ⊎ (member f is ≡ true) → bases H f is ≡ f ∷ []
unfolding bases
bases_plain H f is h = rw (plainly h) refl
  where
    plainly : (length is ≡ 0) ⊎ (member f is ≡ true) → (empty is || member f is) ≡ true
    plainly (inl e) = or_left (empty is) (member f is) (empty_is is ∙ (let z : length is ≡ 0 = e in grind (arith, nat_tests)))
    plainly (inr m) = or_right (empty is) (member f is) m

pub bases_walked : (H : List Commit) (f : ℕ) (is : List ℕ) → (length is ≡ 0 → ⊥) → member f is ≡ false → bases H f is ≡ ids H (best H (shared H f is))
unfolding bases
bases_walked H f is n m = rw (or_from (empty is) (member f is) (empty_is is ∙ (let z : length is ≡ 0 → ⊥ = n in grind (arith, nat_tests))) m) refl

pub plain_slots : (list : List ℕ) (f : Id) (before : List Id) → list ≡ num f ∷ [] → 0 < length before → (nums (take 1 (set before 0 f)) ≡ list) × (drop 1 (set before 0 f) ≡ drop 1 before)
plain_slots list f [] e l = absurd (omega arith)
plain_slots list f (x ∷ xs) e l = (sym e, refl)

pub octopus_plain : (H : List Commit) (f : ℕ) (zs : List ℕ) → every (eqb f) zs ≡ true → Some f ≡ octopus H f zs
unfolding octopus
octopus_plain H f zs e = rw e refl

pub octopus_walked : (H : List Commit) (f : ℕ) (zs : List ℕ) (o : Option ℕ) → every (eqb f) zs ≡ false → o ≡ head (ids H (best H (shared_by_all H f zs))) → o ≡ octopus H f zs
unfolding octopus
octopus_walked H f zs o e h = rw e h

-- WHAT IS LENT. Where nothing refuses, it suffices.
pub record Enough (s : Space) (n : ℕ) : Type 0 where
  pub marks : n ≤ s.marks
  pub queue : 3 * n + 1001 ≤ s.queue
  pub stack : 2 * n ≤ s.stack
  pub answers : n + 1 ≤ s.answers

pub enough : (s : Space) (n o : ℕ) → denied s n o ≡ None → Enough s n
unfolding denied short
enough s n o e = parts (not_short (ltb 1000 o) e)
  where
    not_short : (b : Bool) → cond b (Some TooManyOthers) (cond (short s n) (Some WorkspaceShort) None) ≡ None → short s n ≡ false
    not_short true h = absurd (let z : ◌≡◌ {A = ℕ} 0 1 = cc in omega arith)
    not_short false h = last (short s n) h
      where
        last : (b : Bool) → cond b (Some WorkspaceShort) None ≡ None → b ≡ false
        last true h = absurd (let z : ◌≡◌ {A = ℕ} 0 1 = cc in omega arith)
        last false h = refl

    parts : short s n ≡ false → Enough s n
    parts h =
        let a = or_parts (ltb s.marks n) (ltb s.queue (3 * n + 1001) || (ltb s.stack (2 * n) || ltb s.answers (n + 1))) h in
        let b = or_parts (ltb s.queue (3 * n + 1001)) (ltb s.stack (2 * n) || ltb s.answers (n + 1)) a.1 in
        let c = or_parts (ltb s.stack (2 * n)) (ltb s.answers (n + 1)) b.1 in
        record { marks = ltb-false s.marks n a.0; queue = ltb-false s.queue (3 * n + 1001) b.0; stack = ltb-false s.stack (2 * n) c.0; answers = ltb-false s.answers (n + 1) c.1 }

-- what the code tests
pub refused_many : {A : Type 0} (s : Space) (n o : ℕ) (a : A) → 1000 < o → Err TooManyOthers ≡ unless (denied s n o) a
unfolding denied
refused_many s n o a l = rw (lt-ltb 1000 o l) refl

pub refused_short : {A : Type 0} (s : Space) (n o : ℕ) (a : A) → o ≤ 1000 → short s n ≡ true → Err WorkspaceShort ≡ unless (denied s n o) a
unfolding denied
refused_short s n o a l e = rw (le-ltb 1000 o l, e) refl

pub short_marks : (s : Space) (n : ℕ) → s.marks < n → short s n ≡ true
unfolding short
short_marks s n m = or_left (ltb s.marks n) _ (lt-ltb s.marks n m)

pub short_queue : (s : Space) (n : ℕ) → s.queue < 3 * n + 1001 → short s n ≡ true
unfolding short
short_queue s n m = or_right (ltb s.marks n) _ (or_left (ltb s.queue (3 * n + 1001)) _ (lt-ltb s.queue (3 * n + 1001) m))

pub short_stack : (s : Space) (n : ℕ) → s.stack < 2 * n → short s n ≡ true
unfolding short
short_stack s n m = or_right (ltb s.marks n) _ (or_right (ltb s.queue (3 * n + 1001)) _ (or_left (ltb s.stack (2 * n)) _ (lt-ltb s.stack (2 * n) m)))

pub short_answers : (s : Space) (n : ℕ) → s.answers < n + 1 → short s n ≡ true
unfolding short
short_answers s n m = or_right (ltb s.marks n) _ (or_right (ltb s.queue (3 * n + 1001)) _ (or_right (ltb s.stack (2 * n)) _ (lt-ltb s.answers (n + 1) m)))

pub suffices : {A : Type 0} (s : Space) (n o : ℕ) (a : A) → o ≤ 1000 → Enough s n → Ok a ≡ unless (denied s n o) a
unfolding denied short
suffices s n o a l e = rw (le-ltb 1000 o l, le-ltb s.marks n e.marks, le-ltb s.queue (3 * n + 1001) e.queue, le-ltb s.stack (2 * n) e.stack, le-ltb s.answers (n + 1) e.answers) refl

allowed : {A : Type 0} (o : Option Refusal) (a : A) → Ok a ≡ unless o a → o ≡ None
allowed None a e = refl
allowed (Some f) a e = absurd (let z : ◌≡◌ {A = ℕ} 0 1 = cc in omega arith)

-- what the code learns where it goes on
pub nothing_refuses : (s s' : Space) (n n' o : ℕ) {A : Type 0} (a : A) (r : Result A Refusal) → r ≡ Ok a → r ≡ unless (denied s' n' o) a → s' ≡ s → n' ≡ n → denied s n o ≡ None
nothing_refuses s s' n n' o a r k e p q =
    subst (λ (x : Space). denied x n o ≡ None) p (subst (λ (m : ℕ). denied s' m o ≡ None) q (allowed (denied s' n' o) a (sym k ∙ e)))

-- what is answered where nothing refuses
pub answered : {A : Type 0} (o : Option Refusal) (a b : A) → o ≡ None → b ≡ a → Ok b ≡ unless o a
answered o a b e h = rw (e, h) refl
