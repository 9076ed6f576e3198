-- The history with only the parents followed.
use Rattle.std.proofs.Common.{◌≡◌, ℕ, Bool, true, false, ◌⊎◌, List, [], map, length, get_or, pos, None, sym, refl, ap, ◌∙◌, inl, inr, ⊎_elim}
use lib.ListN.{length-map, get_or-map}
use Rattle.ancestry.specs.Sets.{member}
use Rattle.ancestry.specs.Commits.{Commit, nobody, at}
use Rattle.ancestry.specs.Reaching.{Reaches, itself, through}
use Rattle.ancestry.specs.Lawful.{Lawful}
use Rattle.ancestry.specs.Naming.{Asked, front, followed}
use Rattle.ancestry.specs.Nearest.{trim, trimmed}
use Rattle.ancestry.proofs.Walks.{front_part}

-- the history with only the parents followed
pub trim-nobody : (a : Asked) → trim a nobody ≡ nobody
unfolding trim
trim-nobody a = go a.only_first
  where
    go : (b : Bool) → record { id = 0; generation = None; date = pos 0; parents = front b [] } ≡ nobody
    go true = unfold front in refl
    go false = unfold front in refl

pub at-trimmed : (a : Asked) (H : List Commit) (p : ℕ) → at (trimmed a H) p ≡ trim a (at H p)
unfolding at trimmed
at-trimmed a H p = ap (get_or (map (trim a) H) p) (sym (trim-nobody a)) ∙ get_or-map (trim a) H p nobody

pub trimmed-length : (a : Asked) (H : List Commit) → length (trimmed a H) ≡ length H
unfolding trimmed
trimmed-length a H = length-map H (trim a)

pub trimmed_parents : (a : Asked) (H : List Commit) (p : ℕ) → (at (trimmed a H) p).parents ≡ followed H a p
unfolding followed trim
trimmed_parents a H p = ap (λ (c : Commit). c.parents) (at-trimmed a H p)

pub trimmed_id : (a : Asked) (H : List Commit) (p : ℕ) → (at (trimmed a H) p).id ≡ (at H p).id
unfolding trim
trimmed_id a H p = ap (λ (c : Commit). c.id) (at-trimmed a H p)

pub trimmed_date : (a : Asked) (H : List Commit) (p : ℕ) → (at (trimmed a H) p).date ≡ (at H p).date
unfolding trim
trimmed_date a H p = ap (λ (c : Commit). c.date) (at-trimmed a H p)

pub trimmed_generation : (a : Asked) (H : List Commit) (p : ℕ) → (at (trimmed a H) p).generation ≡ (at H p).generation
unfolding trim
trimmed_generation a H p = ap (λ (c : Commit). c.generation) (at-trimmed a H p)

pub trimmed-part : (a : Asked) (H : List Commit) (p r : ℕ) → member r (at (trimmed a H) p).parents ≡ true → member r (at H p).parents ≡ true
unfolding followed
trimmed-part a H p r m = front_part a.only_first r (at H p).parents (rw (trimmed_parents a H p) at m)

pub Reaches-untrim : (a : Asked) (H : List Commit) (q : ℕ) {p : ℕ} → Reaches (trimmed a H) p q → Reaches H p q
Reaches-untrim a H q (itself e) = itself e
Reaches-untrim a H q {p} (through {r = r} m t) = through (trimmed-part a H p r m) (Reaches-untrim a H q t)

pub trimmed_lawful : (a : Asked) (H : List Commit) → Lawful H → Lawful (trimmed a H)
trimmed_lawful a H L = record {
  apart = λ p q l k e. L.apart p q (rw (trimmed-length a H) at l) (rw (trimmed-length a H) at k) (sym (trimmed_id a H p) ∙ e ∙ trimmed_id a H q);
  inside = λ p r l m. rw (trimmed-length a H) (L.inside p r (rw (trimmed-length a H) at l) (trimmed-part a H p r m));
  acyclic = λ p r l m t. L.acyclic p r (rw (trimmed-length a H) at l) (trimmed-part a H p r m) (Reaches-untrim a H p t);
  falling = λ p r l m. rw (trimmed_generation a H r, trimmed_generation a H p) (L.falling p r (rw (trimmed-length a H) at l) (trimmed-part a H p r m));
}

-- the last parent on the way
pub last_step : (H : List Commit) (q : ℕ) {p : ℕ} → Reaches H p q → (p ≡ q) ⊎ ((d : ℕ) × Reaches H p d × (member q (at H d).parents ≡ true))
last_step H q (itself e) = inl e
last_step H q {p} (through {r = r} m t) = inr (⊎_elim
    (λ (e : r ≡ q). (p, itself refl, rw e at m))
    (λ (d : (d : ℕ) × Reaches H r d × (member q (at H d).parents ≡ true)). (d.0, through m d.1, d.2))
    (last_step H q t))
