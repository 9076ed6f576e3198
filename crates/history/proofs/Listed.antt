-- A table's list of commits by place.
use Rattle.std.proofs.Common.{◌≡◌, ℕ, zero, suc, ◌<◌, ◌≤◌, true, false, List, [], ◌∷◌, ◌++◌, map, length, get_or, Some, None, Option, refl, sym, ap, ◌∙◌, eqb, ltb, cond, arith}
use Rattle.std.specs.List.{slice_get, position, position_or_len}
use Rattle.std.proofs.lemmas.List.{get_or-map, length-map}
use Rattle.std.proofs.lemmas.Option.{slice_get-get_or, slice_get_past}
use Rattle.std.specs.Option.{is_some, IfSome, option_copied}
use Rattle.std.specs.Borrow.{Bor}
use Rattle.std.proofs.lemmas.Bool.{ltb-true, ltb-false}
use Rattle.ancestry.specs.Sets.{next}
use Rattle.ancestry.specs.Commits.{Commit, nobody, at, parents_of, place_of}
use Rattle.ancestry.specs.Ids.{num}
use Rattle.ancestry.proofs.Reach.{past}
use Rattle.ancestry.proofs.Library.{first}
use Rattle.history.specs.Tables.{commit_of, listed}
use Rattle.history.specs.declared.table.Row.{Row}
use Rattle.history.specs.declared.table.Table.{Table}

pub listed_at : (rows : List Row) (p : ℕ) (d : Row) → p < length rows → at (map commit_of rows) p ≡ commit_of (get_or rows p d)
unfolding at
listed_at rows p d l = get_or-map commit_of rows p d nobody l

-- the first row with an id is at the id's place
pub position_place_of : (rows : List Row) (i : ℕ) → position (λ r. eqb (num r.id) i) rows ≡ place_of (map commit_of rows) i
unfolding place_of
position_place_of [] i = refl
position_place_of (r ∷ rows) i =
    first (position_or_len (λ s. eqb (num s.id) i) rows) (length rows) (eqb (num r.id) i) ∙ ap (λ (o : Option ℕ). cond (eqb (num r.id) i) (Some 0) (next o)) (position_place_of rows i)

-- what a lookup of the rows finds at a place
module _ {N : ℕ} (t : Table N) (rows : List Row) (p : ℕ) (same : rows ≡ t.rows.items) where
  pub inside : true ≡ ltb p (length rows) → p < length (listed t)
  inside e =
      let l : p < length rows = ltb-true p (length rows) (sym e) in
      let n : length (listed t) ≡ length rows = length-map t.rows.items commit_of ∙ ap length (sym same) in
      omega arith

  pub found_at : (r : Row) → true ≡ ltb p (length rows) → r ≡ get_or rows p r → at (listed t) p ≡ commit_of r
  found_at r e is =
      let l : p < length rows = ltb-true p (length rows) (sym e) in
      ap (λ (rs : List Row). at (map commit_of rs) p) (sym same) ∙ listed_at rows p r l ∙ ap commit_of (sym is)

  pub nothing_at : (n : ℕ) → false ≡ ltb p (length rows) → None ≡ slice_get (parents_of (listed t) p) n
  nothing_at n e =
      let l : length rows ≤ p = ltb-false p (length rows) (sym e) in
      let m : length (listed t) ≡ length rows = length-map t.rows.items commit_of ∙ ap length (sym same) in
      sym (ap (λ (d : Commit). slice_get d.parents n) (past (listed t) p (omega arith)))

-- a number looked up and copied
pub copied_get : (o : Option (Bor ℕ)) (xs ys : List ℕ) (n : ℕ) → ys ≡ xs → is_some o ≡ ltb n (length ys) → IfSome o (λ x. x.now ≡ get_or ys n x.now) → option_copied o ≡ slice_get xs n
copied_get None xs ys n e l v = sym (slice_get_past xs n (let k : length ys ≤ n = ltb-false n (length ys) (sym l) in let m : length ys ≡ length xs = ap length e in omega arith))
copied_get (Some x) xs ys n e l v =
    let k : n < length ys = ltb-true n (length ys) (sym l) in
    ap Some v ∙ sym (slice_get-get_or ys n x.now k) ∙ ap (λ (zs : List ℕ). slice_get zs n) e

-- a list in which no commit has more than 16 parents, and one such commit more
pub few_more : (H : List Commit) (c : Commit) → ((p : ℕ) → length (parents_of H p) ≤ 16) → length c.parents ≤ 16 → (p : ℕ) → length (parents_of (H ++ c ∷ []) p) ≤ 16
unfolding at
few_more [] c f l zero = l
few_more [] c f l (suc p) = omega arith
few_more (x ∷ H) c f l zero = f zero
few_more (x ∷ H) c f l (suc p) = few_more H c (λ (q : ℕ). f (suc q)) l p

-- no commit, and so none with more
pub few_none : (p : ℕ) → length (parents_of [] p) ≤ 16
unfolding at
few_none p = omega arith
