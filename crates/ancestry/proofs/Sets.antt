-- Laws of tests, lists and counts.
use Rattle.std.proofs.Common.{◌≡◌, ℕ, zero, suc, ◌+◌, ◌<◌, ◌≤◌, Bool, true, false, ◌&&◌, ◌||◌, eqb, ltb, List, [], ◌∷◌, sym, refl, ◌∙◌, subst, ⊎_elim, arith}
use Rattle.std.proofs.lemmas.Bool.{false≢true, eqb-true, eq-eqb, ltb-true, le-ltb, or_cases, or_left, or_right, and_parts, and_from, cases_eq}
use Rattle.std.proofs.lemmas.Bool.Decides.{nat_tests}
use Rattle.ancestry.specs.Sets.{any, every, member, keep, insert, ordered, size}

pub same : (a b : Bool) → (a ≡ true → b ≡ true) → (b ≡ true → a ≡ true) → a ≡ b
same true b f g = sym (f refl)
same false true f g = g refl
same false false f g = refl

pub not_so : (a : Bool) → (a ≡ true → ⊥) → a ≡ false
not_so true f = absurd (f refl)
not_so false f = refl

pub any_intro : (t : ℕ → Bool) (x : ℕ) (xs : List ℕ) → member x xs ≡ true → t x ≡ true → any t xs ≡ true
unfolding any member
any_intro t x [] h k = absurd (false≢true h)
any_intro t x (y ∷ ys) h k = ⊎_elim (λ (e : eqb x y ≡ true). or_left (t y) (any t ys) (subst (λ z. t z ≡ true) (eqb-true x y e) k)) (λ (m : member x ys ≡ true). or_right (t y) (any t ys) (any_intro t x ys m k)) (or_cases (eqb x y) (member x ys) h)

pub any_elim : (t : ℕ → Bool) (xs : List ℕ) → any t xs ≡ true → (x : ℕ) × (member x xs ≡ true) × (t x ≡ true)
unfolding any member
any_elim t [] h = absurd (false≢true h)
any_elim t (y ∷ ys) h = ⊎_elim (λ (e : t y ≡ true). (y, or_left (eqb y y) (member y ys) (eq-eqb y y refl), e)) (λ (m : any t ys ≡ true). let r = any_elim t ys m in (r.0, or_right (eqb r.0 y) (member r.0 ys) r.1, r.2)) (or_cases (t y) (any t ys) h)

pub any_cong : (s t : ℕ → Bool) (xs : List ℕ) → ((x : ℕ) → member x xs ≡ true → s x ≡ t x) → any s xs ≡ any t xs
any_cong s t xs h = same (any s xs) (any t xs)
    (λ k. let r = any_elim s xs k in any_intro t r.0 xs r.1 (sym (h r.0 r.1) ∙ r.2))
    (λ k. let r = any_elim t xs k in any_intro s r.0 xs r.1 (h r.0 r.1 ∙ r.2))

pub every_intro : (t : ℕ → Bool) (xs : List ℕ) → ((x : ℕ) → member x xs ≡ true → t x ≡ true) → every t xs ≡ true
unfolding every member any
every_intro t [] h = refl
every_intro t (y ∷ ys) h = and_from (t y) (every t ys) (h y (or_left (eqb y y) (member y ys) (eq-eqb y y refl))) (every_intro t ys (λ x m. h x (or_right (eqb x y) (member x ys) m)))

pub every_elim : (t : ℕ → Bool) (xs : List ℕ) → every t xs ≡ true → (x : ℕ) → member x xs ≡ true → t x ≡ true
unfolding every member any
every_elim t [] h x m = absurd (false≢true m)
every_elim t (y ∷ ys) h x m = let r = and_parts (t y) (every t ys) h in ⊎_elim (λ (e : eqb x y ≡ true). subst (λ z. t z ≡ true) (sym (eqb-true x y e)) r.0) (λ (k : member x ys ≡ true). every_elim t ys r.1 x k) (or_cases (eqb x y) (member x ys) m)

pub every_cong : (s t : ℕ → Bool) (xs : List ℕ) → ((x : ℕ) → member x xs ≡ true → s x ≡ t x) → every s xs ≡ every t xs
every_cong s t xs h = same (every s xs) (every t xs)
    (λ k. every_intro t xs (λ x m. sym (h x m) ∙ every_elim s xs k x m))
    (λ k. every_intro s xs (λ x m. h x m ∙ every_elim t xs k x m))

pub keep_cong : (s t : ℕ → Bool) (xs : List ℕ) → ((x : ℕ) → member x xs ≡ true → s x ≡ t x) → keep s xs ≡ keep t xs
unfolding keep member any
keep_cong s t [] h = refl
keep_cong s t (y ∷ ys) h = rw (h y (or_left (eqb y y) (member y ys) (eq-eqb y y refl)), keep_cong s t ys (λ x m. h x (or_right (eqb x y) (member x ys) m)))

pub member-keep : (t : ℕ → Bool) (x : ℕ) (xs : List ℕ) → member x (keep t xs) ≡ (member x xs && t x)
unfolding keep member any
member-keep t x [] = refl
member-keep t x (y ∷ ys) = let h : any (eqb x) (keep t ys) ≡ (any (eqb x) ys && t x) = member-keep t x ys in grind (arith, nat_tests)

pub member-insert : (b : ℕ → ℕ → Bool) (x y : ℕ) (ys : List ℕ) → member x (insert b y ys) ≡ (eqb x y || member x ys)
unfolding insert member any
member-insert b x y [] = refl
member-insert b x y (z ∷ zs) = let h : any (eqb x) (insert b y zs) ≡ (eqb x y || any (eqb x) zs) = member-insert b x y zs in grind (arith, nat_tests)

pub member-ordered : (b : ℕ → ℕ → Bool) (x n : ℕ) → member x (ordered b n) ≡ ltb x n
unfolding ordered member any
member-ordered b x zero = sym (le-ltb x 0 (omega arith))
member-ordered b x (suc n) = member-insert b x n (ordered b n) ∙ (let h : member x (ordered b n) ≡ ltb x n = member-ordered b x n in rw h (grind (arith, nat_tests)))

pub keep-insert : (t : ℕ → Bool) (b : ℕ → ℕ → Bool) (x : ℕ) (ys : List ℕ) → t x ≡ false → keep t (insert b x ys) ≡ keep t ys
unfolding keep insert
keep-insert t b x [] e = rw e
keep-insert t b x (y ∷ ys) e = let h : keep t (insert b x ys) ≡ keep t ys = keep-insert t b x ys e in grind (arith, nat_tests)

pub insert_cong : (b d : ℕ → ℕ → Bool) (x : ℕ) (ys : List ℕ) → ((y : ℕ) → member y ys ≡ true → b x y ≡ d x y) → insert b x ys ≡ insert d x ys
unfolding insert member any
insert_cong b d x [] e = refl
insert_cong b d x (y ∷ ys) e = rw (e y (or_left (eqb y y) (member y ys) (eq-eqb y y refl)), insert_cong b d x ys (λ z m. e z (or_right (eqb z y) (member z ys) m)))

pub ordered_cong : (b d : ℕ → ℕ → Bool) (n : ℕ) → ((x y : ℕ) → x < n → y < n → b x y ≡ d x y) → ordered b n ≡ ordered d n
unfolding ordered
ordered_cong b d zero e = refl
ordered_cong b d (suc n) e =
    let h : ordered b n ≡ ordered d n = ordered_cong b d n (λ x y k l. e x y (omega arith) (omega arith)) in
    rw h (insert_cong b d n (ordered d n) (λ y m. let l : y < n = ltb-true y n (sym (member-ordered d y n) ∙ m) in e n y (omega arith) (omega arith)))

pub size_most : (t : ℕ → Bool) (n : ℕ) → size t n ≤ n
unfolding size
size_most t zero = omega arith
size_most t (suc n) = let h : size t n ≤ n = size_most t n in grind (arith, nat_tests)

pub size_mono : (s t : ℕ → Bool) (n : ℕ) → ((x : ℕ) → x < n → s x ≡ true → t x ≡ true) → size s n ≤ size t n
unfolding size
size_mono s t zero h = omega arith
size_mono s t (suc n) h =
    let k : size s n ≤ size t n = size_mono s t n (λ x l. h x (omega arith)) in
    let e : s n ≡ true → t n ≡ true = h n (omega arith) in grind (arith, nat_tests)

pub size_less : (s t : ℕ → Bool) (n q : ℕ) → ((x : ℕ) → x < n → s x ≡ true → t x ≡ true) → q < n → s q ≡ false → t q ≡ true → size s n < size t n
unfolding size
size_less s t zero q h l a b = omega arith
size_less s t (suc n) q h l a b = ⊎_elim
    (λ (e : q ≡ n). let k : size s n ≤ size t n = size_mono s t n (λ x l. h x (omega arith)) in
    let a' : s n ≡ false = rw e at a in let b' : t n ≡ true = rw e at b in rw (a', b') (omega arith))
    (λ (ne : q ≡ n → ⊥). let k : size s n < size t n = size_less s t n q (λ x l. h x (omega arith)) (omega arith) a b in
    let e : s n ≡ true → t n ≡ true = h n (omega arith) in grind (arith, nat_tests))
    (cases_eq q n)

pub size_cong : (s t : ℕ → Bool) (n : ℕ) → ((x : ℕ) → x < n → s x ≡ t x) → size s n ≡ size t n
unfolding size
size_cong s t zero h = refl
size_cong s t (suc n) h = rw (h n (omega arith), size_cong s t n (λ x l. h x (omega arith)))

-- one more passes
pub size_one_more : (s t : ℕ → Bool) (n q : ℕ) → q < n → s q ≡ false → t q ≡ true → ((x : ℕ) → x < n → (x ≡ q → ⊥) → s x ≡ t x) → size t n ≡ size s n + 1
unfolding size
size_one_more s t zero q l a b h = absurd (omega arith)
size_one_more s t (suc n) q l a b h = ⊎_elim
    (λ (e : q ≡ n). let k : size s n ≡ size t n = size_cong s t n (λ x l. h x (omega arith) (omega arith)) in
    let a' : s n ≡ false = rw e at a in let b' : t n ≡ true = rw e at b in rw (a', b') (omega arith))
    (λ (ne : q ≡ n → ⊥). let k : size t n ≡ size s n + 1 = size_one_more s t n q (omega arith) a b (λ x l. h x (omega arith)) in
    let e : s n ≡ t n = h n (omega arith) (λ z. ne (sym z)) in rw e (omega arith))
    (cases_eq q n)
