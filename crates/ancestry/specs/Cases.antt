-- Histories that mislead, as one table of questions with their answers. Every case of the second half is here for a wrong
-- reading of the rules that the first half lets pass: its comment names that reading, and what it would answer.
use Rattle.std.specs.Prelude.{◌≡◌, ℕ, zero, suc, ◌+◌, ◌-◌, ◌*◌, Bool, true, false, List, [], ◌∷◌, ◌++◌, pos, Some, None, Option}
use Rattle.std.specs.List.{range_with_len}
use Rattle.ancestry.specs.Commits.{Commit}
use Rattle.ancestry.specs.Bases.{bases, octopus}
use Rattle.ancestry.specs.Naming.{Asked, Answer, named, bare, nothing}
use Rattle.ancestry.specs.Describe.{describe}

-- a commit by its id, date and parents, without a generation and with one
unfoldable pub plain : ℕ → ℕ → List ℕ → Commit
plain i d ps = record { id = i; generation = None; date = pos d; parents = ps }

unfoldable pub levelled : ℕ → ℕ → ℕ → List ℕ → Commit
levelled i g d ps = record { id = i; generation = Some g; date = pos d; parents = ps }

-- ids rise with the letters: a 1, b 2, c 3, g 7, h 8, m 13, p 16, q 17, r 18, s 19, t 20, x 24, y 25
-- r(100), x(200; r), y(210; r), a(300; x, y), b(310; y, x), c(320; x)
unfoldable pub history_k : List Commit
history_k = plain 18 100 [] ∷ plain 24 200 (0 ∷ []) ∷ plain 25 210 (0 ∷ []) ∷ plain 1 300 (1 ∷ 2 ∷ []) ∷ plain 2 310 (2 ∷ 1 ∷ []) ∷ plain 3 320 (1 ∷ []) ∷ []

-- q(800), s(100), m(200; s, q), p(300; m), g(900; p, q), h(910; p, q)
unfoldable pub history_s : List Commit
history_s = plain 17 800 [] ∷ plain 19 100 [] ∷ plain 13 200 (1 ∷ 0 ∷ []) ∷ plain 16 300 (2 ∷ []) ∷ plain 7 900 (3 ∷ 0 ∷ []) ∷ plain 8 910 (3 ∷ 0 ∷ []) ∷ []

-- history_s with two commits more between m and p
unfoldable pub history_long : List Commit
history_long = plain 17 800 [] ∷ plain 19 100 [] ∷ plain 13 200 (1 ∷ 0 ∷ []) ∷ plain 14 250 (2 ∷ []) ∷ plain 15 260 (3 ∷ []) ∷ plain 16 300 (4 ∷ []) ∷ plain 7 900 (5 ∷ 0 ∷ []) ∷ plain 8 910 (5 ∷ 0 ∷ []) ∷ []

-- x and y of one date
unfoldable pub history_tied : List Commit
history_tied = plain 18 100 [] ∷ plain 24 200 (0 ∷ []) ∷ plain 25 200 (0 ∷ []) ∷ plain 1 300 (1 ∷ 2 ∷ []) ∷ plain 2 310 (2 ∷ 1 ∷ []) ∷ []

-- x without a generation, y with one and of a later date
unfoldable pub history_absent : List Commit
history_absent = plain 24 200 [] ∷ levelled 25 5 900 [] ∷ plain 1 1000 (0 ∷ 1 ∷ []) ∷ plain 2 1010 (1 ∷ 0 ∷ []) ∷ []

-- x of a greater generation, y of a later date
unfoldable pub history_levels : List Commit
history_levels = levelled 24 5 100 [] ∷ levelled 25 3 900 [] ∷ levelled 1 6 1000 (0 ∷ 1 ∷ []) ∷ levelled 2 6 1010 (1 ∷ 0 ∷ []) ∷ []

-- a(400; r) is met first, b(390; y) has more behind it: r(100), x(200; r), y(210; x), b, a, t(500; a, b)
unfoldable pub history_fork : List Commit
history_fork = plain 18 100 [] ∷ plain 24 200 (0 ∷ []) ∷ plain 25 210 (1 ∷ []) ∷ plain 2 390 (2 ∷ []) ∷ plain 1 400 (0 ∷ []) ∷ plain 20 500 (4 ∷ 3 ∷ []) ∷ []

-- a line: r(100), m(200; r), n(300; m), t(400; n)
unfoldable pub history_line : List Commit
history_line = plain 18 100 [] ∷ plain 13 200 (0 ∷ []) ∷ plain 14 300 (1 ∷ []) ∷ plain 20 400 (2 ∷ []) ∷ []

-- r(300), c(200), b(350; c), a(400; r), t(500; a, b)
unfoldable pub history_wide : List Commit
history_wide = plain 18 300 [] ∷ plain 3 200 [] ∷ plain 2 350 (1 ∷ []) ∷ plain 1 400 (0 ∷ []) ∷ plain 20 500 (3 ∷ 2 ∷ []) ∷ []

-- two roots a and b of one date under t
unfoldable pub history_twins : List Commit
history_twins = plain 1 200 [] ∷ plain 2 200 [] ∷ plain 20 300 (0 ∷ 1 ∷ []) ∷ []

-- a root with a date, and 33 commits over it, each on the one before and on the root, the last of the lowest id; t on top
unfoldable pub rungs : ℕ → ℕ → List Commit
rungs p zero = []
rungs p (suc n) = plain (134 - p) (660 + 10 * p) ((p - 1) ∷ 0 ∷ []) ∷ rungs (p + 1) n

unfoldable pub history_ladder : List Commit
history_ladder = plain 1000 1 [] ∷ (rungs 1 33 ++ plain 20 2000 (33 ∷ 0 ∷ []) ∷ [])

-- what is asked: names by their ids, candidates, the bare id as fallback
unfoldable pub asks : List ℕ → ℕ → Bool → Asked
asks names most fallback = record { names = names; most = most; fallback = fallback; only_first = false }

-- the same by first parents
unfoldable pub asks_first : List ℕ → ℕ → Bool → Asked
asks_first names most fallback = record { names = names; most = most; fallback = fallback; only_first = true }

pub data Case : Type 0 where
  bases_are : List Commit → ℕ → List ℕ → List ℕ → Case
  octopus_is : List Commit → ℕ → List ℕ → Option ℕ → Case
  described : List Commit → Asked → ℕ → Answer → Case

abbrev pub Right : Case → Type 0
Right (bases_are H first others r) = bases H first others ≡ r
Right (octopus_is H first others r) = octopus H first others ≡ r
Right (described H a start r) = describe H a start ≡ r

abbrev pub AllRight : List Case → Type 0
AllRight [] = Unit {0}
AllRight (c ∷ cs) = Right c × AllRight cs

-- x is R1, name 0, and y is R2, name 1
abbrev pub first_half : List Case
first_half =
    bases_are history_k 1 (2 ∷ []) (25 ∷ 24 ∷ [])
    ∷ bases_are history_k 2 (1 ∷ []) (25 ∷ 24 ∷ [])
    ∷ bases_are history_k 1 [] (1 ∷ [])
    ∷ bases_are history_k 1 (2 ∷ 1 ∷ []) (1 ∷ [])
    ∷ bases_are history_k 1 (2 ∷ 3 ∷ []) (25 ∷ 24 ∷ [])
    ∷ octopus_is history_k 1 (2 ∷ 3 ∷ []) (Some 24)
    ∷ octopus_is history_k 1 (3 ∷ 2 ∷ []) (Some 24)
    ∷ described history_k (asks (24 ∷ 25 ∷ []) 10 false) 1 (named 1 2 4)
    ∷ described history_k (asks (24 ∷ 25 ∷ []) 1 false) 1 (named 1 2 4)
    ∷ described history_k (asks (24 ∷ 25 ∷ []) 0 true) 1 (bare 0)
    ∷ described history_k (asks (24 ∷ 25 ∷ []) 0 false) 24 (named 0 0 0)
    ∷ bases_are history_s 7 (8 ∷ []) (16 ∷ [])
    ∷ []

abbrev pub second_half : List Case
second_half =
    -- the first name found is not the nearest: choosing it gives a, depth 4
    described history_fork (asks (1 ∷ 2 ∷ []) 10 false) 20 (named 1 2 6)
    -- of equal keys the lower id is better: the higher gives y, x
    ∷ bases_are history_tied 1 (2 ∷ []) (24 ∷ 25 ∷ [])
    -- an absent generation is above every present one: as 0 it gives y, x
    ∷ bases_are history_absent 1 (2 ∷ []) (24 ∷ 25 ∷ [])
    -- the generation comes before the date: by date alone y, x
    ∷ bases_are history_levels 1 (2 ∷ []) (24 ∷ 25 ∷ [])
    -- a stale base is dropped however long the way to it: a way of two parents at most keeps q beside p
    ∷ bases_are history_long 7 (8 ∷ []) (16 ∷ [])
    -- an id that is not held is passed over among the others: held against them all it gives none
    ∷ bases_are history_k 1 (99 ∷ 2 ∷ []) (25 ∷ 24 ∷ [])
    -- `first` among the others is its own base, held or not: by reaching alone none
    ∷ bases_are history_k 99 (99 ∷ []) (99 ∷ [])
    -- for the octopus an id that is not held reaches nothing: passed over it gives y
    ∷ octopus_is history_k 1 (2 ∷ 99 ∷ []) None
    -- the octopus of one commit is that commit, held or not: by reaching alone none
    ∷ octopus_is history_k 99 (99 ∷ 99 ∷ []) (Some 99)
    -- by first parents a comes to x and never to y: by all parents the name is y, depth 2
    ∷ described history_k (asks_first (24 ∷ 25 ∷ []) 10 false) 1 (named 0 1 2)
    -- the bare id comes with the number seen by the walk: 0 seen is invented
    ∷ described history_k (asks (99 ∷ []) 10 true) 1 (bare 4)
    -- without the fallback a walk that finds no name gives none: the bare id was not asked for
    ∷ described history_k (asks (99 ∷ []) 10 false) 1 nothing
    -- the walk stops early where nothing waits and the nearest name is behind: going on sees 4
    ∷ described history_line (asks (14 ∷ []) 10 false) 20 (named 0 1 2)
    -- the finishing walk stops only when all that wait have the mark: stopping at the first marked gives depth 2, seen 4
    ∷ described history_wide (asks (1 ∷ 2 ∷ []) 1 false) 20 (named 0 3 5)
    -- of equal dates the lower id is taken first: the higher gives b
    ∷ described history_twins (asks (1 ∷ 2 ∷ []) 10 false) 20 (named 0 2 3)
    -- more than 32 candidates count as 32: with 33 the walk sees 35
    ∷ described history_ladder (asks (range_with_len 101 33) 33 false) 20 (named 0 1 34)
    -- a named start is its own answer, held or not: by its place it has none
    ∷ described history_k (asks (24 ∷ 99 ∷ []) 10 false) 99 (named 1 0 0)
    ∷ []

abbrev pub Table : Type 0
Table = AllRight first_half × AllRight second_half
