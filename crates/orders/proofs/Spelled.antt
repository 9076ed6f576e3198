-- Fields read one after another.
use Rattle.std.proofs.Common.{◌≡◌, ℕ, suc, ◌+◌, ◌<◌, ◌≤◌, List, [], ◌∷◌, ◌++◌, length, get_or, drop, Ok, Err, Option, Result, sym, refl, ap, ◌∙◌, append_assoc, append-nil, arith}
use Rattle.std.specs.Option.{ok_or}
use Rattle.std.proofs.lemmas.List.{at_drop_more, at_drop_all}
use Rattle.std.specs.Borrow.{Bor}
use Rattle.lines.specs.Bytes.{texts}
use Rattle.orders.specs.Fields.{by, ok_mapped, fault, each_on, checked}
use Rattle.orders.specs.declared.expected.Expected.{Expected}
use Rattle.orders.specs.declared.expected.Malformed.{Malformed}

checked_next : {X : Type 0} (x : X) (q : Result (List X) Malformed) → checked (by q (λ xs. Ok (x ∷ xs))) ≡ checked q
checked_next x (Ok xs) = refl
checked_next x (Err m) = refl

kept_next : {X : Type 0} (before : List X) (x : X) (q : Result (List X) Malformed) →
    ok_mapped (λ xs. before ++ xs) (by q (λ xs. Ok (x ∷ xs))) ≡ ok_mapped (λ xs. (before ++ x ∷ []) ++ xs) q
kept_next before x (Ok xs) = ap Ok (sym (append_assoc before (x ∷ []) xs))
kept_next before x (Err m) = refl

module _ {X : Type 0} (reads : List ℕ → Option X) (e : Expected) (fs : List (Bor (List ℕ))) (first : ℕ) where
  -- what is left from the one at i on: that one, and what is left after it
  each_more : (i : ℕ) (f : Bor (List ℕ)) (r : Result X Malformed) → i < length fs → r ≡ ok_or (reads (get_or fs i f).now) (fault (first + i) e) →
      each_on reads e (first + i) (texts (drop i fs)) ≡ by r (λ x. by (each_on reads e (first + (i + 1)) (texts (drop (i + 1) fs))) (λ xs. Ok (x ∷ xs)))
  unfolding each_on
  each_more i f r l h =
      let next : suc (first + i) ≡ first + (i + 1) = omega arith in
      at_drop_more (λ rest. each_on reads e (first + i) (texts rest)) fs i f l
      ∙ ap (λ j. by (ok_or (reads (get_or fs i f).now) (fault (first + i) e)) (λ x. by (each_on reads e j (texts (drop (i + 1) fs))) (λ xs. Ok (x ∷ xs)))) next
      ∙ ap (λ q. by q (λ x. by (each_on reads e (first + (i + 1)) (texts (drop (i + 1) fs))) (λ xs. Ok (x ∷ xs)))) (sym h)

  each_end : (i : ℕ) → length fs ≤ i → each_on reads e (first + i) (texts (drop i fs)) ≡ Ok []
  unfolding each_on
  each_end i = at_drop_all (λ rest. each_on reads e (first + i) (texts rest)) fs i

  -- where the fields are only checked: whether they can be read does not depend on what was read before
  pub checked_more : (i : ℕ) (f : Bor (List ℕ)) (x : X) → i < length fs → Ok x ≡ ok_or (reads (get_or fs i f).now) (fault (first + i) e) →
      checked (each_on reads e (first + (i + 1)) (texts (drop (i + 1) fs))) ≡ checked (each_on reads e (first + i) (texts (drop i fs)))
  checked_more i f x l h =
      sym (ap checked (each_more i f (Ok x) l h) ∙ checked_next x (each_on reads e (first + (i + 1)) (texts (drop (i + 1) fs))))

  pub checked_fault : (i : ℕ) (f : Bor (List ℕ)) (m : Malformed) → i < length fs → Err m ≡ ok_or (reads (get_or fs i f).now) (fault (first + i) e) →
      Err m ≡ checked (each_on reads e (first + i) (texts (drop i fs)))
  checked_fault i f m l h = sym (ap checked (each_more i f (Err m) l h))

  pub checked_end : (i : ℕ) → length fs ≤ i → Ok tt ≡ checked (each_on reads e (first + i) (texts (drop i fs)))
  checked_end i l = sym (ap checked (each_end i l))

  -- where they are kept: what was read before stands before what is left
  pub kept_more : (i : ℕ) (f : Bor (List ℕ)) (x : X) (before : List X) → i < length fs → Ok x ≡ ok_or (reads (get_or fs i f).now) (fault (first + i) e) →
      ok_mapped (λ xs. (before ++ x ∷ []) ++ xs) (each_on reads e (first + (i + 1)) (texts (drop (i + 1) fs)))
      ≡ ok_mapped (λ xs. before ++ xs) (each_on reads e (first + i) (texts (drop i fs)))
  kept_more i f x before l h =
      sym (ap (ok_mapped (λ xs. before ++ xs)) (each_more i f (Ok x) l h) ∙ kept_next before x (each_on reads e (first + (i + 1)) (texts (drop (i + 1) fs))))

  pub kept_fault : (i : ℕ) (f : Bor (List ℕ)) (m : Malformed) (before : List X) → i < length fs → Err m ≡ ok_or (reads (get_or fs i f).now) (fault (first + i) e) →
      ok_mapped (λ xs. before ++ xs) (each_on reads e (first + i) (texts (drop i fs))) ≡ Err m
  kept_fault i f m before l h = ap (ok_mapped (λ xs. before ++ xs)) (each_more i f (Err m) l h)

  pub kept_end : (i : ℕ) (before : List X) → length fs ≤ i →
      ok_mapped (λ xs. before ++ xs) (each_on reads e (first + i) (texts (drop i fs))) ≡ Ok before
  kept_end i before l = ap (ok_mapped (λ xs. before ++ xs)) (each_end i l) ∙ ap Ok (append-nil before)
