-- Where painting starts, and what it leaves.
use Rattle.std.proofs.Common.{◌≡◌, ℕ, zero, suc, ◌+◌, ◌<◌, ◌≤◌, Bool, true, false, ◌||◌, List, [], ◌∷◌, ◌++◌, length, get_or, take, replicate, Some, None, Option, sym, refl, ap, ◌∙◌, subst, ⊎_elim, add-one, arith}
use Rattle.std.proofs.lemmas.Bool.{false≢true, true≢false, or_cases, eqb-true}
use Rattle.ancestry.specs.Sets.{any, member}
use Rattle.ancestry.specs.Ids.{num, nums}
use Rattle.ancestry.specs.declared.id.Id.{Id}
use Rattle.ancestry.specs.Commits.{Commit, place_of}
use Rattle.ancestry.specs.Lawful.{Lawful}
use Rattle.ancestry.specs.Reaching.{Reaches, itself, through, reaches, reached_from, id_reaches}
use Rattle.ancestry.proofs.Best.{reached_inside}
use Rattle.ancestry.proofs.Join.{place_says}
use Rattle.ancestry.proofs.Reach.{Reaches-trans, reaches_complete, reaches_itself, reaches_sound}
use Rattle.ancestry.proofs.Sets.{any_intro, any_elim}
use Rattle.ancestry.proofs.Tallies.{member-cons}
use Rattle.ancestry.proofs.Unique.{member_here, member_there, member-nil}
use Rattle.queue.specs.Kinds.{beats}
use Rattle.queue.specs.Queues.{waiting, room, Whole}
use Rattle.queue.specs.declared.kinds.Keyed.{Keyed}
use Rattle.queue.specs.declared.lent.Queue.{Queue}
use Rattle.painting.specs.Bits.{flags}
use Rattle.painting.specs.Entries.{times, occurs}
use Rattle.painting.specs.Marks.{blank, mark, joined, told, lively, waits, resulted, total, hand, hand_all}
use Rattle.painting.specs.Painted.{Kept, Noted, Covers, Closed, Sound, Down, Good, Unmet}
use Rattle.painting.specs.Seeded.{ours, theirs, Blank, with_found, places_by, places_of, reached_by}
use Rattle.painting.specs.declared.marks.Mark.{Mark}
use Rattle.painting.specs.declared.marks.Told.{Told}
use Rattle.painting.proofs.Counts.{total-cons}
use Rattle.painting.proofs.Turns.{hand_all_keeps, hand_all-grown, hand_all-covers, length-hand_all}

-- a sum over marks that each count 0
pub total_none : (f : Mark → ℕ) (ms : List Mark) → ((p : ℕ) → f (mark ms p) ≡ 0) → total f ms ≡ 0
total_none f [] z = unfold total in refl
total_none f (m ∷ ms) z = total-cons f m ms ∙ (let h : total f ms ≡ 0 = total_none f ms (λ p. z (suc p)) in let k : f m ≡ 0 = z 0 in omega arith)

occurs-nil : (p : ℕ) → occurs p [] ≡ 0
unfolding occurs
occurs-nil p = refl

-- an empty queue beside blank marks
pub kept_blank : (ms : List Mark) (q : Queue Keyed) → Blank ms → Whole beats q → waiting q ≡ [] → length ms ≤ room q → Kept ms q 0
kept_blank ms q b w e r = record {
  whole = w;
  space = r;
  tied = λ p. ap (occurs p) e ∙ occurs-nil p ∙ ap waits (sym (b p));
  count = ap length e ∙ sym (total_none waits ms (λ p. ap waits (b p)));
  alive = sym (total_none lively ms (λ p. ap lively (b p)));
}

-- marks that were cleared
zero_mark : (n p : ℕ) → mark (flags (replicate n 0)) p ≡ blank
unfolding flags
zero_mark zero p = refl
zero_mark (suc n) zero = refl
zero_mark (suc n) (suc p) = zero_mark n p

pub blank_zeros : (n : ℕ) (ms : List ℕ) → ms ≡ replicate n 0 → Blank (flags ms)
blank_zeros n ms e p = ap (λ (l : List ℕ). mark (flags l) p) e ∙ zero_mark n p

-- THE PLACES OF SEEDS. Telling lists that follow one another is telling their join.
hand_all-append : (t : Told) (ps qs : List ℕ) (ms : List Mark) → hand_all t qs (hand_all t ps ms) ≡ hand_all t (ps ++ qs) ms
unfolding hand_all
hand_all-append t [] qs ms = refl
hand_all-append t (p ∷ ps) qs ms = hand_all-append t ps qs (hand t p ms)

found_append : (o : Option ℕ) (ps qs : List ℕ) → with_found o ps ++ qs ≡ with_found o (ps ++ qs)
found_append None ps qs = refl
found_append (Some p) ps qs = refl

module _ {A : Type 0} (f : A → Option ℕ) where
  places_end : (xs : List A) (n : ℕ) (x : A) → n < length xs → x ≡ get_or xs n x → places_by f (take (suc n) xs) ≡ places_by f (take n xs) ++ with_found (f x) []
  unfolding places_by
  places_end [] n x l e = absurd (omega arith)
  places_end (y ∷ xs) zero x l e = ap (λ (z : A). with_found (f z) []) (sym e)
  places_end (y ∷ xs) (suc n) x l e =
      ap (with_found (f y)) (places_end xs n x (omega arith) e)
      ∙ sym (found_append (f y) (places_by f (take n xs)) (with_found (f x) []))

  -- one more seed
  seed_more : (t : Told) (xs : List A) (n : ℕ) (x : A) (ms l : List Mark) → n < length xs → x ≡ get_or xs n x → l ≡ hand_all t (places_by f (take n xs)) ms
      → hand_all t (with_found (f x) []) l ≡ hand_all t (places_by f (take (n + 1) xs)) ms
  seed_more t xs n x ms l h e k =
      ap (hand_all t (with_found (f x) [])) k
      ∙ hand_all-append t (places_by f (take n xs)) (with_found (f x) []) ms
      ∙ ap (λ (y : List ℕ). hand_all t y ms) (sym (places_end xs n x h e))
      ∙ ap (λ (m : ℕ). hand_all t (places_by f (take m xs)) ms) (sym (add-one n))

  pub seed_none : (t : Told) (ms : List Mark) → ms ≡ hand_all t (places_by f []) ms
  unfolding hand_all places_by
  seed_none t ms = refl

  pub seed_found : (t : Told) (xs : List A) (n : ℕ) (x : A) (p : ℕ) (ms l l' : List Mark) → n < length xs → x ≡ get_or xs n x → f x ≡ Some p → l ≡ hand_all t (places_by f (take n xs)) ms
      → l' ≡ hand t p l → l' ≡ hand_all t (places_by f (take (n + 1) xs)) ms
  unfolding hand_all
  seed_found t xs n x p ms l l' h e o k k' = k' ∙ ap (λ (q : Option ℕ). hand_all t (with_found q []) l) (sym o) ∙ seed_more t xs n x ms l h e k

  pub seed_absent : (t : Told) (xs : List A) (n : ℕ) (x : A) (ms l : List Mark) → n < length xs → x ≡ get_or xs n x → f x ≡ None → l ≡ hand_all t (places_by f (take n xs)) ms
      → l ≡ hand_all t (places_by f (take (n + 1) xs)) ms
  unfolding hand_all
  seed_absent t xs n x ms l h e o k = ap (λ (q : Option ℕ). hand_all t (with_found q []) l) (sym o) ∙ seed_more t xs n x ms l h e k

  pub seed_member : (xs : List A) (n : ℕ) (x : A) (p : ℕ) → n < length xs → x ≡ get_or xs n x → f x ≡ Some p → member p (places_by f xs) ≡ true
  unfolding places_by
  seed_member [] n x p l e o = absurd (omega arith)
  seed_member (y ∷ xs) zero x p l e o = subst (λ (q : Option ℕ). member p (with_found q (places_by f xs)) ≡ true) (sym o ∙ ap f e) (member_here p (places_by f xs))
  seed_member (y ∷ xs) (suc n) x p l e o = later (f y) (seed_member xs n x p (omega arith) e o)
    where
      later : (q : Option ℕ) → member p (places_by f xs) ≡ true → member p (with_found q (places_by f xs)) ≡ true
      later None m = m
      later (Some r) m = member_there p r (places_by f xs) m

pub places_ids : (H : List Commit) (is : List Id) → places_by (λ i. place_of H (num i)) is ≡ places_of H (nums is)
unfolding places_by
places_ids H [] = refl
places_ids H (i ∷ is) = ap (with_found (place_of H (num i))) (places_ids H is)

pub places_places : (ps : List ℕ) → places_by Some ps ≡ ps
unfolding places_by
places_places [] = refl
places_places (p ∷ ps) = ap (λ (l : List ℕ). p ∷ l) (places_places ps)

pub places_inside : (H : List Commit) (is : List ℕ) (s : ℕ) → member s (places_of H is) ≡ true → s < length H
unfolding places_by
places_inside H [] s m = absurd (member-nil s m)
places_inside H (i ∷ is) s m = go (place_of H i) refl (places_inside H is s) m
  where
    go : (o : Option ℕ) → place_of H i ≡ o → (member s (places_of H is) ≡ true → s < length H) → member s (with_found o (places_of H is)) ≡ true → s < length H
    go None e h m = h m
    go (Some p) e h m = ⊎_elim (λ k. subst (λ (y : ℕ). y < length H) (sym (eqb-true s p k)) (place_says H i p e).0) h (member-cons s p (places_of H is) m)

-- ids told, over the same list of commits under another name
pub ids_inside : (H : List Commit) (is : List Id) (s : ℕ) → member s (places_by (λ i. place_of H (num i)) is) ≡ true → s < length H
ids_inside H is s m = places_inside H (nums is) s (subst (λ (l : List ℕ). member s l ≡ true) (places_ids H is) m)

pub ids_told : (H G : List Commit) (t : Told) (is : List Id) (ms l : List Mark) → G ≡ H → l ≡ hand_all t (places_by (λ i. place_of G (num i)) is) ms → l ≡ hand_all t (places_of H (nums is)) ms
ids_told H G t is ms l e h = h ∙ ap (λ (ps : List ℕ). hand_all t ps ms) (ap (λ (X : List Commit). places_by (λ i. place_of X (num i)) is) e ∙ places_ids H is)

-- places told
pub places_inside_too : (H : List Commit) (ps : List ℕ) → ((s : ℕ) → member s ps ≡ true → s < length H) → (s : ℕ) → member s (places_by Some ps) ≡ true → s < length H
places_inside_too H ps h s m = h s (subst (λ (l : List ℕ). member s l ≡ true) (places_places ps) m)

pub places_told : (t : Told) (ps qs : List ℕ) (ms l : List Mark) → qs ≡ ps → l ≡ hand_all t (places_by Some qs) ms → l ≡ hand_all t ps ms
places_told t ps qs ms l e h = h ∙ ap (λ (xs : List ℕ). hand_all t xs ms) (places_places qs ∙ e)

-- what the places of ids reach is what the ids reach
pub ids_reach : (H : List Commit) (is : List ℕ) (p : ℕ) → reached_by H (places_of H is) p ≡ any (λ i. id_reaches H i p) is
unfolding reached_by places_by any id_reaches reached_from
ids_reach H [] p = refl
ids_reach H (i ∷ is) p = go (place_of H i) (ids_reach H is p)
  where
    go : (o : Option ℕ) → any (λ s. reaches H s p) (places_of H is) ≡ any (λ i. id_reaches H i p) is
        → any (λ s. reaches H s p) (with_found o (places_of H is)) ≡ (reached_from H o p || any (λ i. id_reaches H i p) is)
    go None h = h
    go (Some s) h = ap (λ (b : Bool). reaches H s p || b) h

pub id_reach : (H : List Commit) (i p : ℕ) → reached_by H (places_of H (i ∷ [])) p ≡ id_reaches H i p
unfolding any
id_reach H i p = ids_reach H (i ∷ []) p ∙ one (id_reaches H i p)
  where
    one : (b : Bool) → (b || any (λ i. id_reaches H i p) []) ≡ b
    one true = refl
    one false = refl

-- THE START. A mark that does not wait is blank.
abbrev Fresh : List Mark → Type 0
Fresh ms = (x : ℕ) → (mark ms x).waiting ≡ false → mark ms x ≡ blank

closed_fresh : (H : List Commit) (ms : List Mark) → Fresh ms → Closed H ms
closed_fresh H ms f p l w =
    let e : mark ms p ≡ blank = f p w in
    record {
      parents = λ r i. subst (λ (m : Mark). Covers (mark ms r) (told m)) (sym e) (record { first = λ x. absurd (false≢true x); others = λ x. absurd (false≢true x); stale = λ x. absurd (false≢true x) });
      due = λ a _ _. absurd (false≢true (sym (ap (λ (m : Mark). m.first) e) ∙ a));
    }

module _ (H : List Commit) (L : Lawful H) where
  pub down_places : (ps : List ℕ) → ((s : ℕ) → member s ps ≡ true → s < length H) → Down H (reached_by H ps)
  unfolding reached_by
  down_places ps inside p r h m =
      let x = any_elim (λ s. reaches H s p) ps h in
      let t : Reaches H x.0 r = Reaches-trans H r p (through m (itself refl)) (reaches_sound H x.0 p x.2) in
      any_intro (λ s. reaches H s r) x.0 ps x.1 (reaches_complete H r (reached_inside H L r (inside x.0 x.1) t) t)

  module _ (fs ps : List ℕ) (inside-f : (s : ℕ) → member s fs ≡ true → s < length H) (inside-p : (s : ℕ) → member s ps ≡ true → s < length H) where
    abbrev A : ℕ → Bool
    A = reached_by H fs

    abbrev B : ℕ → Bool
    B = reached_by H ps

    sound_blank : (p : ℕ) → Sound H A B p blank
    sound_blank p = record { first = λ x. absurd (false≢true x); others = λ x. absurd (false≢true x); stale = λ x. absurd (false≢true x); result = λ x. absurd (false≢true x) }

    sound_ours : (r : ℕ) (m : Mark) → member r fs ≡ true → Sound H A B r m → Sound H A B r (joined m ours)
    sound_ours r m k s = record {
      first = λ _. unfold reached_by in any_intro (λ s. reaches H s r) r fs k (reaches_itself H r);
      others = λ x. ⊎_elim s.others (λ (y : false ≡ true). absurd (false≢true y)) (or_cases m.others false x);
      stale = λ x. ⊎_elim s.stale (λ (y : false ≡ true). absurd (false≢true y)) (or_cases m.stale false x);
      result = s.result;
    }

    sound_theirs : (r : ℕ) (m : Mark) → member r ps ≡ true → Sound H A B r m → Sound H A B r (joined m theirs)
    sound_theirs r m k s = record {
      first = λ x. ⊎_elim s.first (λ (y : false ≡ true). absurd (false≢true y)) (or_cases m.first false x);
      others = λ _. unfold reached_by in any_intro (λ s. reaches H s r) r ps k (reaches_itself H r);
      stale = λ x. ⊎_elim s.stale (λ (y : false ≡ true). absurd (false≢true y)) (or_cases m.stale false x);
      result = s.result;
    }

    -- what is so of blank marks, and stays so where they are told, is so at the start
    pub start_keeps : (P : ℕ → Mark → Type 0) (ms : List Mark) → Blank ms → ((x : ℕ) → P x blank) → ((r : ℕ) (m : Mark) → member r fs ≡ true → P r m → P r (joined m ours)) → ((r : ℕ) (m : Mark) → member r ps ≡ true → P r m → P r (joined m theirs))
        → (x : ℕ) → P x (mark (hand_all theirs ps (hand_all ours fs ms)) x)
    start_keeps P ms b z f g = hand_all_keeps P theirs ps (hand_all ours fs ms) g (hand_all_keeps P ours fs ms f (λ x. subst (P x) (sym (b x)) (z x)))

    pub good_start : (ms : List Mark) → length ms ≡ length H → Blank ms → Good H (reached_by H fs) (reached_by H ps) (hand_all theirs ps (hand_all ours fs ms))
    good_start ms n b =
        let ns : List Mark = hand_all ours fs ms in
        let len : length ns ≡ length ms = length-hand_all ours fs ms in
        record {
          closed = closed_fresh H (hand_all theirs ps ns) (start_keeps (λ x m. m.waiting ≡ false → m ≡ blank) ms b (λ x _. refl) (λ r m _ _ e. absurd (true≢false e)) (λ r m _ _ e. absurd (true≢false e)));
          sound = start_keeps (Sound H A B) ms b sound_blank sound_ours sound_theirs;
          first = λ p a.
              let x = any_elim (λ s. reaches H s p) fs (unfold reached_by in a) in
              (x.0, inside-f x.0 x.1, (hand_all-grown theirs ps ns x.0).first ((hand_all-covers ours fs ms x.0 x.1 (omega (arith, inside-f x.0 x.1))).first refl), reaches_sound H x.0 p x.2);
          others = λ p a.
              let x = any_elim (λ s. reaches H s p) ps (unfold reached_by in a) in
              (x.0, inside-p x.0 x.1, (hand_all-covers theirs ps ns x.0 x.1 (omega (arith, inside-p x.0 x.1))).others refl, reaches_sound H x.0 p x.2);
        }

    pub noted_start : (ms : List Mark) → Blank ms → Noted (hand_all theirs ps (hand_all ours fs ms)) []
    noted_start ms b =
        let z = start_keeps (λ x m. resulted m ≡ 0) ms b (λ x. refl) (λ r m _ e. e) (λ r m _ e. e) in
        record { once = λ p. nil p ∙ sym (z p); count = sym (total_none resulted (hand_all theirs ps (hand_all ours fs ms)) z) }
      where
        nil : (p : ℕ) → times p [] ≡ 0
        nil p = unfold times in refl

    pub unmet_start : (ms : List Mark) → Blank ms → Unmet (hand_all theirs ps (hand_all ours fs ms))
    unmet_start ms b = start_keeps (λ x m. m.met ≡ false) ms b (λ x. refl) (λ r m _ e. e) (λ r m _ e. e)
