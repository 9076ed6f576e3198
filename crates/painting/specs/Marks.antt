-- Marks of places, and what a turn of the painting makes of them.
use Rattle.std.specs.Prelude.{ℕ, ◌+◌, Bool, true, false, cond, not, ◌&&◌, ◌||◌, List, [], ◌∷◌, sum_by, slice_index_or, slice_set}
use Rattle.ancestry.specs.Commits.{Commit, parents_of}
use Rattle.painting.specs.declared.marks.Mark.{Mark}
use Rattle.painting.specs.declared.marks.Told.{Told}

abbrev pub blank : Mark
blank = record { first = false; others = false; stale = false; result = false; waiting = false; met = false }

abbrev pub mark : List Mark → ℕ → Mark
mark ms p = slice_index_or ms p blank

-- the mark has all that is told
abbrev pub covers : Mark → Told → Bool
covers m t = ((m.first || not t.first) && (m.others || not t.others)) && (m.stale || not t.stale)

-- the mark with what is told; its commit waits
abbrev pub joined : Mark → Told → Mark
joined m t = record {
  first = m.first || t.first;
  others = m.others || t.others;
  stale = m.stale || t.stale;
  result = m.result;
  waiting = true;
  met = m.met;
}

-- what a commit with this mark tells its parents: below a shared commit all is stale
abbrev pub told : Mark → Told
told m = record { first = m.first; others = m.others; stale = m.stale || (m.first && m.others) }

-- a commit with this mark, once taken, is a result that was not noted before
abbrev pub newly : Mark → Bool
newly m = ((m.first && m.others) && not m.stale) && not m.result

-- the mark of a commit that was taken
abbrev pub settled : Mark → Mark
settled m = record {
  first = m.first;
  others = m.others;
  stale = m.stale;
  result = m.result || newly m;
  waiting = false;
  met = m.met;
}

-- the mark of a commit that was met on the way down from the results
abbrev pub seen : Mark → Mark
seen m = record { first = m.first; others = m.others; stale = m.stale; result = m.result; waiting = m.waiting; met = true }

-- no result is known that reaches a child of the commit
abbrev pub left : Mark → Bool
left m = not m.stale && not m.met

-- the commit waits and is not stale
abbrev pub alive : Mark → Bool
alive m = m.waiting && not m.stale

abbrev pub lively : Mark → ℕ
lively m = cond (alive m) 1 0

abbrev pub waits : Mark → ℕ
waits m = cond m.waiting 1 0

abbrev pub resulted : Mark → ℕ
resulted m = cond m.result 1 0

abbrev pub unmet : Mark → ℕ
unmet m = cond m.met 0 1

-- what a mark can still cost: two turns for each flag that it lacks, and one where it waits
abbrev pub cost : Mark → ℕ
cost m = ((cond m.first 0 2 + cond m.others 0 2) + cond m.stale 0 2) + cond m.waiting 1 0

unfoldable pub total : (Mark → ℕ) → List Mark → ℕ
total f ms = sum_by f ms

-- the marks once a place is told something
unfoldable pub hand : Told → ℕ → List Mark → List Mark
hand t r ms = cond (covers (mark ms r) t) ms (slice_set ms r (joined (mark ms r) t))

unfoldable pub hand_all : Told → List ℕ → List Mark → List Mark
hand_all t [] ms = ms
hand_all t (r ∷ rs) ms = hand_all t rs (hand t r ms)

-- the marks once a place is taken
unfoldable pub settle : ℕ → List Mark → List Mark
settle p ms = slice_set ms p (settled (mark ms p))

-- the marks once a place is taken, and has told its parents
unfoldable pub turn : List Commit → ℕ → List Mark → List Mark
turn H p ms = hand_all (told (mark ms p)) (parents_of H p) (settle p ms)
