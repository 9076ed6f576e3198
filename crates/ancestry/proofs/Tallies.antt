-- The counts of candidates, and lists of numbers.
use Rattle.std.proofs.Common.{◌≡◌, ℕ, zero, suc, ◌+◌, ◌<◌, ◌≤◌, min, Bool, true, false, cond, not, ◌&&◌, ◌||◌, eqb, ◌⊎◌, List, [], ◌∷◌, ◌++◌, map, length, get_or, Some, None, Option, sym, refl, ap, ◌∙◌, subst, ⊎_elim, arith, length-append}
use lib.ListN.{length-map, get_or-append}
use lib.Seq.{get_or-append_seam}
use Rattle.std.proofs.lemmas.Bool.{false≢true, both_ways, eqb-true, eqb-false, eq-eqb, or_cases, or_left, or_right, cases_lt, and_parts, not-true}
use Rattle.ancestry.specs.Sets.{any, member, size, index_of, absent}
use Rattle.ancestry.specs.Commits.{Commit}
use Rattle.ancestry.specs.Reaching.{reaches}
use Rattle.ancestry.specs.Bases.{empty}
use Rattle.ancestry.specs.Walk.{Walk, gains, least, has_all, has_least, ended}
use Rattle.ancestry.specs.Describe.{earliest}

pub gains_is : (f h : ℕ → ℕ) (has : ℕ → Bool) (cs : List ℕ) (m : ℕ) → ((j : ℕ) → j < length cs → h (get_or cs j 0) ≡ cond (has (m + j)) (f (get_or cs j 0)) (f (get_or cs j 0) + 1)) → gains has m (map f cs) ≡ map h cs
unfolding gains
gains_is f h has [] m e = refl
gains_is f h has (c ∷ cs) m e =
    let x : h c ≡ cond (has (m + 0)) (f c) (f c + 1) = e 0 (omega arith) in
    let y : m + 0 ≡ m = omega arith in
    let z : h c ≡ cond (has m) (f c) (f c + 1) = rw y at x in
    let r : gains has (suc m) (map f cs) ≡ map h cs = gains_is f h has cs (suc m) (λ j l. let k : m + suc j ≡ suc m + j = omega arith in subst (λ (i : ℕ). h (get_or cs j 0) ≡ cond (has i) (f (get_or cs j 0)) (f (get_or cs j 0) + 1)) k (e (suc j) (omega arith))) in
    rw (r, z)

pub map_push : (f : ℕ → ℕ) (xs : List ℕ) (x : ℕ) → map f (xs ++ x ∷ []) ≡ map f xs ++ f x ∷ []
map_push f [] x = refl
map_push f (y ∷ ys) x = rw (map_push f ys x)

pub getD_push_old : (xs : List ℕ) (x m : ℕ) → m < length xs → get_or (xs ++ x ∷ []) m 0 ≡ get_or xs m 0
getD_push_old xs x m l = get_or-append xs (x ∷ []) 0 m l

pub getD_push_new : (xs : List ℕ) (x m : ℕ) → m ≡ length xs → get_or (xs ++ x ∷ []) m 0 ≡ x
getD_push_new xs x m e = rw e (get_or-append_seam xs x [] 0)

pub length_push : (xs : List ℕ) (x : ℕ) → length (xs ++ x ∷ []) ≡ length xs + 1
length_push xs x = length-append xs (x ∷ [])

-- the counts of those that candidates do not reach
unfoldable pub unreached_by : List Commit → (ℕ → Bool) → ℕ → ℕ
unreached_by T g c = size (λ q. g q && not (reaches T c q)) (length T)

unfoldable pub number_of : Option ℕ → ℕ
number_of None = 0
number_of (Some k) = k

-- least counts
pub least_low : (n : ℕ) (ns : List ℕ) → (least n ns ≤ n) × ((x : ℕ) → member x ns ≡ true → least n ns ≤ x)
unfolding least member any
least_low n [] = (omega arith, λ x m. absurd (false≢true m))
least_low n (k ∷ ks) = let r = least_low (min n k) ks in
    (omega (arith, r.0), λ x m. ⊎_elim (λ (e : eqb x k ≡ true). let z : x ≡ k = eqb-true x k e in omega (arith, r.0)) (λ (e : member x ks ≡ true). r.1 x e) (or_cases (eqb x k) (member x ks) m))

pub least_of : (n : ℕ) (ns : List ℕ) → member (least n ns) (n ∷ ns) ≡ true
unfolding least member any
least_of n [] = or_left (eqb n n) false (eq-eqb n n refl)
least_of n (k ∷ ks) = ⊎_elim
    (λ (e : eqb (least (min n k) ks) (min n k) ≡ true). let z : least (min n k) ks ≡ min n k = eqb-true (least (min n k) ks) (min n k) e in
    ⊎_elim (λ (y : n < k). or_left (eqb (least (min n k) ks) n) (eqb (least (min n k) ks) k || member (least (min n k) ks) ks) (eq-eqb (least (min n k) ks) n (omega arith)))
    (λ (y : k ≤ n). or_right (eqb (least (min n k) ks) n) (eqb (least (min n k) ks) k || member (least (min n k) ks) ks) (or_left (eqb (least (min n k) ks) k) (member (least (min n k) ks) ks) (eq-eqb (least (min n k) ks) k (omega arith)))) (cases_lt n k))
    (λ (e : member (least (min n k) ks) ks ≡ true). or_right (eqb (least (min n k) ks) n) (eqb (least (min n k) ks) k || member (least (min n k) ks) ks) (or_right (eqb (least (min n k) ks) k) (member (least (min n k) ks) ks) e))
    (or_cases (eqb (least (min n k) ks) (min n k)) (member (least (min n k) ks) ks) (least_of (min n k) ks))

pub has_all_says : (x : ℕ) (has : ℕ → Bool) (m : ℕ) (ks : List ℕ) → has_all x has m ks ≡ true → (j : ℕ) → j < length ks → get_or ks j 0 ≡ x → has (m + j) ≡ true
unfolding has_all
has_all_says x has m [] h j l e = absurd (omega arith)
has_all_says x has m (k ∷ ks) h zero l e = let y = and_parts (not (eqb k x) || has m) (has_all x has (suc m) ks) h in
    ⊎_elim (λ (z : not (eqb k x) ≡ true). absurd (both_ways (eqb k x) (not-true (eqb k x) z) (eq-eqb k x e))) (λ (z : has m ≡ true). let i : m + 0 ≡ m = omega arith in rw i z) (or_cases (not (eqb k x)) (has m) y.0)
has_all_says x has m (k ∷ ks) h (suc j) l e = let y = and_parts (not (eqb k x) || has m) (has_all x has (suc m) ks) h in
    let i : m + suc j ≡ suc m + j = omega arith in rw i (has_all_says x has (suc m) ks y.1 j (omega arith) e)

pub earliest_says : (x m : ℕ) (ks : List ℕ) → member x ks ≡ true → (j : ℕ) × (earliest x m ks ≡ m + j) × (j < length ks) × (get_or ks j 0 ≡ x)
unfolding earliest member any
earliest_says x m [] h = absurd (false≢true h)
earliest_says x m (k ∷ ks) h = go (eqb k x) refl (λ e. earliest_says x (suc m) ks e)
  where
    go : (b : Bool) → eqb k x ≡ b → (member x ks ≡ true → (j : ℕ) × (earliest x (suc m) ks ≡ suc m + j) × (j < length ks) × (get_or ks j 0 ≡ x)) → (j : ℕ) × (cond b m (earliest x (suc m) ks) ≡ m + j) × (j < suc (length ks)) × (get_or (k ∷ ks) j 0 ≡ x)
    go true e r = (0, omega arith, omega arith, eqb-true k x e)
    go false e r = let y = r (⊎_elim (λ (z : eqb x k ≡ true). absurd (eqb-false k x e (sym (eqb-true x k z)))) (λ (z : member x ks ≡ true). z) (or_cases (eqb x k) (member x ks) h)) in
        (suc y.0, omega (arith, y.1), omega (arith, y.2), y.3)

pub getD_mapped : (f : ℕ → ℕ) (cs : List ℕ) (j : ℕ) → j < length cs → get_or (map f cs) j 0 ≡ f (get_or cs j 0)
getD_mapped f [] j l = absurd (omega arith)
getD_mapped f (c ∷ cs) zero l = refl
getD_mapped f (c ∷ cs) (suc j) l = getD_mapped f cs j (omega arith)

pub stands_at : (c : ℕ) (cs : List ℕ) → member c cs ≡ true → (j : ℕ) × (j < length cs) × (get_or cs j 0 ≡ c)
unfolding member any
stands_at c [] m = absurd (false≢true m)
stands_at c (d ∷ ds) m = ⊎_elim (λ (e : eqb c d ≡ true). (0, omega arith, sym (eqb-true c d e))) (λ (e : member c ds ≡ true). let r = stands_at c ds e in (suc r.0, omega (arith, r.1), r.2)) (or_cases (eqb c d) (member c ds) m)

pub member_mapped : (f : ℕ → ℕ) (x : ℕ) (cs : List ℕ) → member x (map f cs) ≡ true → (c : ℕ) × (member c cs ≡ true) × (x ≡ f c)
unfolding member any
member_mapped f x [] m = absurd (false≢true m)
member_mapped f x (c ∷ cs) m = ⊎_elim (λ (e : eqb x (f c) ≡ true). (c, or_left (eqb c c) (member c cs) (eq-eqb c c refl), eqb-true x (f c) e))
    (λ (e : member x (map f cs) ≡ true). let r = member_mapped f x cs e in (r.0, or_right (eqb r.0 c) (member r.0 cs) r.1, r.2)) (or_cases (eqb x (f c)) (member x (map f cs)) m)

pub mapped_member : (f : ℕ → ℕ) (c : ℕ) (cs : List ℕ) → member c cs ≡ true → member (f c) (map f cs) ≡ true
unfolding member any
mapped_member f c [] m = absurd (false≢true m)
mapped_member f c (d ∷ ds) m = ⊎_elim (λ (e : eqb c d ≡ true). or_left (eqb (f c) (f d)) (member (f c) (map f ds)) (eq-eqb (f c) (f d) (ap f (eqb-true c d e))))
    (λ (e : member c ds ≡ true). or_right (eqb (f c) (f d)) (member (f c) (map f ds)) (mapped_member f c ds e)) (or_cases (eqb c d) (member c ds) m)

-- the test has the place of each c whose count is least
pub least-marked : (f : ℕ → ℕ) (has : ℕ → Bool) (cs : List ℕ) → has_least has (map f cs) ≡ true → (c : ℕ) → member c cs ≡ true → ((c' : ℕ) → member c' cs ≡ true → f c ≤ f c') → (j : ℕ) × (j < length cs) × (get_or cs j 0 ≡ c) × (has j ≡ true)
unfolding has_least
least-marked f has [] h c m l = absurd (false≢true h)
least-marked f has (d ∷ ds) h c m l =
    let r = stands_at c (d ∷ ds) m in
    let N : ℕ = least (f d) (map f ds) in
    let x = member_mapped f N (d ∷ ds) (least_of (f d) (map f ds)) in
    let u : f c ≤ f x.0 = l x.0 x.1 in
    let lw = least_low (f d) (map f ds) in
    let t : N ≤ f c = ⊎_elim (λ (e : eqb (f c) (f d) ≡ true). let z : f c ≡ f d = eqb-true (f c) (f d) e in omega (arith, lw.0)) (λ (e : member (f c) (map f ds) ≡ true). lw.1 (f c) e) (or_cases (eqb (f c) (f d)) (member (f c) (map f ds)) (unfold member any in mapped_member f c (d ∷ ds) m)) in
    let v : f c ≡ N = omega (arith, x.2) in
    let i : 0 + r.0 ≡ r.0 = omega arith in
    (r.0, r.1, r.2, subst (λ (k : ℕ). has k ≡ true) i (has_all_says N has 0 (map f (d ∷ ds)) h r.0 (rw (length-map (d ∷ ds) f) r.1) (getD_mapped f (d ∷ ds) r.0 r.1 ∙ ap f r.2 ∙ v)))

pub member-cons : (x y : ℕ) (ys : List ℕ) → member x (y ∷ ys) ≡ true → (eqb x y ≡ true) ⊎ (member x ys ≡ true)
unfolding member any
member-cons x y ys m = or_cases (eqb x y) (member x ys) m

pub place_none : (ns : List ℕ) (i : ℕ) → empty ns ≡ true → index_of ns i ≡ None
unfolding index_of empty
place_none [] i e = refl
place_none (x ∷ xs) i e = absurd (false≢true e)

pub no_least : (has : ℕ → Bool) → has_least has [] ≡ true → ⊥
unfolding has_least
no_least has h = false≢true h

pub ended_quiet : (w : Walk) (q : ℕ) → w.waiting q ≡ false → (ended w).waiting q ≡ false
unfolding ended
ended_quiet w q h = h

pub none_absent : (o : Option ℕ) → absent o ≡ true → o ≡ None
unfolding absent
none_absent None e = refl
none_absent (Some x) e = absurd (false≢true e)
