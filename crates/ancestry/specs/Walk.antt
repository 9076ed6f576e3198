-- The walk for the nearest name: its state, its five steps, and its turns.
use Rattle.std.specs.Prelude.{ℕ, zero, suc, ◌+◌, ◌-◌, min, Bool, true, false, cond, not, ◌&&◌, ◌||◌, List, [], ◌∷◌, ◌++◌, length, Some, None, Option, ◌==◌, nat_lt}
use Rattle.ancestry.specs.Sets.{member, keep, ordered, absent}
use Rattle.ancestry.specs.Commits.{Commit, at}
use Rattle.ancestry.specs.Keys.{newer}
use Rattle.ancestry.specs.Bases.{head}
use Rattle.ancestry.specs.Naming.{Asked, name_of, followed}

-- a walk: sets of places are given by their tests; `marks p m` says that p has the mark of candidate m;
-- candidate m has the name `found` m and the count `counts` m; `aside` is the commit set aside
pub record Walk : Type 0 where
  pub waiting : ℕ → Bool
  pub met : ℕ → Bool
  pub marks : ℕ → ℕ → Bool
  pub seen : ℕ
  pub found : List ℕ
  pub counts : List ℕ
  pub aside : Option ℕ
  pub over : Bool

-- all places, greatest date first, of equal dates the lower id first
unfoldable pub by_date : List Commit → List ℕ
by_date H = ordered (λ p q. newer (at H p) (at H q)) (length H)

-- the first of a set by date: of the waiting commits the one that is taken
unfoldable pub first_of : List Commit → (ℕ → Bool) → Option ℕ
first_of H S = head (keep S (by_date H))

-- the counts of the candidates, numbered from m: each gains 1 unless the test has its number
unfoldable pub gains : (ℕ → Bool) → ℕ → List ℕ → List ℕ
gains has m [] = []
gains has m (n ∷ ns) = cond (has m) n (n + 1) ∷ gains has (suc m) ns

unfoldable pub least : ℕ → List ℕ → ℕ
least n [] = n
least n (k ∷ ks) = least (min n k) ks

-- the test has each number, from m, of a count that is n
unfoldable pub has_all : ℕ → (ℕ → Bool) → ℕ → List ℕ → Bool
has_all n has m [] = true
has_all n has m (k ∷ ks) = (not (k == n) || has m) && has_all n has (suc m) ks

-- p has the mark of every candidate of smallest count, and there is a candidate
unfoldable pub has_least : (ℕ → Bool) → List ℕ → Bool
has_least has [] = false
has_least has (n ∷ ns) = has_all (least n ns) has 0 (n ∷ ns)

-- step 1: p no longer waits, and is counted
unfoldable pub taken : ℕ → Walk → Walk
taken p w = record {
  waiting = λ q. w.waiting q && not (q == p);
  met = w.met;
  marks = w.marks;
  seen = w.seen + 1;
  found = w.found;
  counts = w.counts;
  aside = w.aside;
  over = w.over;
}

-- step 2: p becomes a candidate for the name k
unfoldable pub adopted : ℕ → ℕ → Walk → Walk
adopted p k w = record {
  waiting = w.waiting;
  met = w.met;
  marks = λ q m. w.marks q m || (q == p && m == length w.found);
  seen = w.seen;
  found = w.found ++ k ∷ [];
  counts = w.counts ++ (w.seen - 1) ∷ [];
  aside = w.aside;
  over = w.over;
}

-- or, with no candidate free, is set aside, and the walk stops
unfoldable pub set_aside : ℕ → Walk → Walk
set_aside p w = record {
  waiting = w.waiting;
  met = w.met;
  marks = w.marks;
  seen = w.seen;
  found = w.found;
  counts = w.counts;
  aside = Some p;
  over = true;
}

-- step 3: each candidate whose mark p lacks gains 1
unfoldable pub counted : ℕ → Walk → Walk
counted p w = record {
  waiting = w.waiting;
  met = w.met;
  marks = w.marks;
  seen = w.seen;
  found = w.found;
  counts = gains (w.marks p) 0 w.counts;
  aside = w.aside;
  over = w.over;
}

-- the walk stops
unfoldable pub ended : Walk → Walk
ended w = record {
  waiting = w.waiting;
  met = w.met;
  marks = w.marks;
  seen = w.seen;
  found = w.found;
  counts = w.counts;
  aside = w.aside;
  over = true;
}

-- step 5: p's marks go to the parents followed, and one never met waits
unfoldable pub handed : ℕ → List ℕ → Walk → Walk
handed p ps w = record {
  waiting = λ q. w.waiting q || (member q ps && not (w.met q));
  met = λ q. w.met q || member q ps;
  marks = λ q m. w.marks q m || (member q ps && w.marks p m);
  seen = w.seen;
  found = w.found;
  counts = w.counts;
  aside = w.aside;
  over = w.over;
}

-- steps 4 and 5: stop if nothing waits and p has the mark of every candidate of smallest count, else hand on
unfoldable pub onward : List Commit → Asked → ℕ → Walk → Walk
onward H a p w =
    cond (absent (first_of H w.waiting) && has_least (w.marks p) w.counts) (ended w) (handed p (followed H a p) w)

-- fewer candidates than are allowed; more than 32 count as 32
unfoldable pub free : Asked → Walk → Bool
free a w = nat_lt (length w.found) (min 32 a.most)

-- steps 2 to 5, at p that has the name given, if it has one
unfoldable pub visit : List Commit → Asked → ℕ → Option ℕ → Walk → Walk
visit H a p None w = onward H a p (counted p w)
visit H a p (Some k) w = cond (free a w) (onward H a p (counted p (adopted p k w))) (set_aside p w)

-- steps 1 to 5, at the waiting commit that is taken
unfoldable pub take_turn : List Commit → Asked → Option ℕ → Walk → Walk
take_turn H a None w = ended w
take_turn H a (Some p) w = visit H a p (name_of a (at H p).id) (taken p w)

-- one turn, unless the walk is over
unfoldable pub turn : List Commit → Asked → Bool → Walk → Walk
turn H a true w = w
turn H a false w = take_turn H a (first_of H w.waiting) w

-- k turns; a commit waits once at most, so that as many turns as there are commits, and one, end the walk
unfoldable pub walk : List Commit → Asked → ℕ → Walk → Walk
walk H a zero w = w
walk H a (suc k) w = walk H a k (turn H a w.over w)

-- at first the start waits, unmarked
unfoldable pub at_start : ℕ → Walk
at_start s = record {
  waiting = λ q. (q == s);
  met = λ q. (q == s);
  marks = λ q m. false;
  seen = 0;
  found = [];
  counts = [];
  aside = None;
  over = false;
}
