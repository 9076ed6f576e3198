-- One more commit at a time: the bases of those so far reach all that they share.
use Rattle.std.proofs.Common.{◌≡◌, ℕ, ◌+◌, ◌<◌, Bool, true, false, ◌&&◌, ◌||◌, eqb, List, [], ◌∷◌, ◌++◌, length, get_or, take, Some, None, sym, refl, ap, ◌∙◌, subst, ⊎_elim, arith}
use Rattle.std.proofs.lemmas.List.{take_more, map-append}
use Rattle.std.proofs.lemmas.Bool.{and_parts, and_from, eqb-true}
use Rattle.std.proofs.lemmas.Bool.Decides.{nat_tests}
use Rattle.ancestry.specs.Sets.{any, every, member}
use Rattle.ancestry.specs.Bases.{shared_by_all}
use Rattle.ancestry.specs.Commits.{Commit, place_of}
use Rattle.ancestry.specs.Ids.{num, nums}
use Rattle.ancestry.specs.declared.id.Id.{Id}
use Rattle.ancestry.specs.Lawful.{Lawful}
use Rattle.ancestry.specs.Reaching.{Reaches, itself, through, reaches, reached_from, id_reaches}
use Rattle.ancestry.proofs.Best.{above}
use Rattle.ancestry.proofs.Join.{place_says, id_reaches-at}
use Rattle.ancestry.proofs.Reach.{reaches_sound}
use Rattle.ancestry.proofs.Sets.{same, any_intro, any_elim}
use Rattle.ancestry.proofs.Tallies.{member-cons}
use Rattle.ancestry.proofs.Unique.{member-nil, best_law}
use Rattle.painting.specs.Painted.{Down}
use Rattle.painting.specs.Seeded.{places_of, reached_by, meeting}
use Rattle.painting.specs.Walks.{Bests}
use Rattle.painting.proofs.Seeds.{down_places, places_inside, id_reach}
use Rattle.revision.specs.Folding.{Spans, Folded}

module _ (H : List Commit) (L : Lawful H) where
  -- down along all parents
  down_far : (S : ℕ → Bool) → Down H S → (p s : ℕ) → S s ≡ true → Reaches H s p → S p ≡ true
  down_far S d p s e (itself z) = subst (λ (y : ℕ). S y ≡ true) z e
  down_far S d p s e (through {r = r} m t) = down_far S d p r (d s r e m) t

  -- the best of a set that is closed downwards reach all of it, and nothing else
  spanning : (S : ℕ → Bool) → Down H S → (ps : List ℕ) → Bests H S ps → (p : ℕ) → p < length H → reached_by H ps p ≡ S p
  unfolding reached_by
  spanning S d ps b p l = same (any (λ s. reaches H s p) ps) (S p)
      (λ h. let x = any_elim (λ s. reaches H s p) ps h in down_far S d p x.0 (b.only x.0 x.1).1 (reaches_sound H x.0 p x.2))
      (λ h. let a = above H L S p l h in let o = (best_law H L S).0.only a.0 a.2 in any_intro (λ s. reaches H s p) a.0 ps (b.all a.0 a.1 o.1 o.2) a.3)

  down_and : (A B : ℕ → Bool) → Down H A → Down H B → Down H (λ p. A p && B p)
  down_and A B a b p r h m = let k = and_parts (A p) (B p) h in and_from (A r) (B r) (a p r k.0 m) (b p r k.1 m)

  down_id : (i : ℕ) → Down H (id_reaches H i)
  down_id i p r h m = sym (id_reach H i r) ∙ down_places H L (places_of H (i ∷ [])) (places_inside H (i ∷ [])) p r (id_reach H i p ∙ h) m

  down_all : (f : ℕ) (zs : List ℕ) → Down H (shared_by_all H f zs)
  unfolding shared_by_all every
  down_all f zs = down_and (id_reaches H f) (λ p. every (λ i. id_reaches H i p) zs) (down_id f) (go zs)
    where
      go : (zs : List ℕ) → Down H (λ p. every (λ i. id_reaches H i p) zs)
      go [] p r h m = refl
      go (z ∷ zs) p r h m = down_and (id_reaches H z) (λ p. every (λ i. id_reaches H i p) zs) (down_id z) (go zs) p r h m

  every_end : (t : ℕ → Bool) (zs : List ℕ) (z : ℕ) → every t (zs ++ z ∷ []) ≡ (t z && every t zs)
  unfolding every
  every_end t [] z = refl
  every_end t (x ∷ zs) z = let h : every t (zs ++ z ∷ []) ≡ (t z && every t zs) = every_end t zs z in grind (arith, nat_tests)

  -- what one more commit and the places share is what all share
  meets : (f z : ℕ) (zs ps : List ℕ) → Spans H f zs ps → (p : ℕ) → p < length H → meeting H z ps p ≡ shared_by_all H f (zs ++ z ∷ []) p
  unfolding meeting shared_by_all
  meets f z zs ps s p l =
      ap (λ (b : Bool). id_reaches H z p && b) (s.spans p l) ∙ turn (id_reaches H z p) (id_reaches H f p) (every (λ i. id_reaches H i p) zs)
      ∙ ap (λ (b : Bool). id_reaches H f p && b) (sym (every_end (λ i. id_reaches H i p) zs z))
    where
      turn : (a b d : Bool) → (a && (b && d)) ≡ (b && (a && d))
      turn true true d = refl
      turn true false d = refl
      turn false true d = refl
      turn false false d = refl

  -- the start
  pub start_held : (f s : ℕ) (before after : List ℕ) → place_of H f ≡ Some s → before ≡ [] → after ≡ before ++ s ∷ [] → Spans H f [] after
  start_held f s before after e z p = subst (Spans H f []) (sym (p ∙ ap (λ (l : List ℕ). l ++ s ∷ []) z)) (record {
    inside = λ q m. ⊎_elim (λ (k : eqb q s ≡ true). subst (λ (y : ℕ). y < length H) (sym (eqb-true q s k)) (place_says H f s e).0) (λ (k : member q [] ≡ true). absurd (member-nil q k)) (member-cons q s [] m);
    spans = λ p _. one p;
  })
    where
      one : (p : ℕ) → reached_by H (s ∷ []) p ≡ shared_by_all H f [] p
      one p = unfold reached_by in unfold any in unfold shared_by_all in unfold every in rw (id_reaches-at H f s p e) (go (reaches H s p))
        where
          go : (b : Bool) → (b || false) ≡ (b && true)
          go true = refl
          go false = refl

  pub start_none : (f : ℕ) → place_of H f ≡ None → Spans H f [] []
  start_none f e = record { inside = λ q m. absurd (member-nil q m); spans = λ p _. none p }
    where
      none : (p : ℕ) → reached_by H [] p ≡ shared_by_all H f [] p
      none p = unfold reached_by in unfold any in unfold shared_by_all in unfold every in unfold id_reaches in unfold reached_from in rw e refl

bests_same : (H : List Commit) (S T : ℕ → Bool) (ps : List ℕ) → ((p : ℕ) → p < length H → S p ≡ T p) → Bests H S ps → Bests H T ps
bests_same H S T ps e b = record {
  all = λ p l t u. b.all p l (e p l ∙ t) (λ q k x r. u q k (sym (e q k) ∙ x) r);
  only = λ p m. let x = b.only p m in (x.0, sym (e p x.0) ∙ x.1, λ q l t r. x.2 q l (e q l ∙ t) r);
  once = b.once;
}

-- a round
round_more : (H : List Commit) → Lawful H → (f z : ℕ) (zs ps qs : List ℕ) → Spans H f zs ps → Bests H (meeting H z ps) qs → Folded H f (zs ++ z ∷ []) qs
round_more H L f z zs ps qs s b =
    let t = bests_same H (meeting H z ps) (shared_by_all H f (zs ++ z ∷ [])) qs (meets H L f z zs ps s) b in
    record {
      spans = record { inside = λ x m. (t.only x m).0; spans = spanning H L (shared_by_all H f (zs ++ z ∷ [])) (down_all H L f (zs ++ z ∷ [])) qs t };
      bests = λ _. t;
    }

pub folded_more : (H G : List Commit) → Lawful H → (f : ℕ) (is : List Id) (n : ℕ) (d : Id) (ps qs : List ℕ) → n < length is → G ≡ H → Folded H f (nums (take n is)) ps → Bests G (meeting G (num (get_or is n d)) ps) qs → Folded H f (nums (take (n + 1) is)) qs
folded_more H G L f is n d ps qs l e h b =
    let b' : Bests H (meeting H (num (get_or is n d)) ps) qs = subst (λ (X : List Commit). Bests X (meeting X (num (get_or is n d)) ps) qs) e b in
    let z : nums (take (n + 1) is) ≡ nums (take n is) ++ num (get_or is n d) ∷ [] = ap nums (take_more is n d l) ∙ map-append num (take n is) (get_or is n d ∷ []) in
    subst (λ (zs : List ℕ). Folded H f zs qs) (sym z) (round_more H L f (num (get_or is n d)) (nums (take n is)) ps qs h.spans b')
