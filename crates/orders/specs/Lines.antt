-- What each kind of line says.
use Rattle.std.specs.Prelude.{◌≡◌, ℕ, List, map, drop, ℤ, Ok, Err, vec_items, Option, Result, Vec}
use Rattle.std.specs.declared.alloc.Global.{Global}
use Rattle.ancestry.specs.Ids.{num}
use Rattle.ancestry.specs.Numbers.{from_hex}
use Rattle.orders.specs.Spelling.{decimal_of, date_of, generation_of}
use Rattle.orders.specs.Words.{word_of, option_of}
use Rattle.orders.specs.Fields.{by, text_at, read_at, end_at, each_on, checked, Via, via, parent_of, chosen}
use Rattle.orders.specs.declared.expected.Expected.TheVariants.{AWord, AnId, AGeneration, ADate, AParent, AName, APlace, ANumber, AnOption}
use Rattle.orders.specs.declared.expected.Malformed.{Malformed}
use Rattle.orders.specs.declared.order.Order.{Order}
use Rattle.orders.specs.declared.order.Order.TheVariants as order
use Rattle.orders.specs.declared.parent.Parent.{Parent}
use Rattle.orders.specs.declared.parsing.Fault.{Fault}
use Rattle.orders.specs.declared.parsing.Fault.TheVariants.{Line, Memory}
use Rattle.orders.specs.declared.words.Word.{Word}
use Rattle.orders.specs.declared.words.Word.TheVariants as word

-- what a line says, ids by their numbers
pub data Said : Type 0 where
  commit : ℕ → Option ℕ → ℤ → List Via → Said
  name : ℕ → Said
  count : Said
  capacity : Said
  find : ℕ → Said
  read : ℕ → Said
  parent : ℕ → ℕ → Said
  later : Said

abbrev pub said : Order → Said
said (order.Commit o) = commit (num o.id) o.generation o.date (map via (vec_items o.parents))
said (order.Name i) = name (num i)
said order.Count = count
said order.Capacity = capacity
said (order.Find i) = find (num i)
said (order.Read p) = read p
said (order.Parent p n) = parent p n
said order.Later = later

-- the result is what the line says: its order, or its first fault. Where memory is short, nothing is promised
abbrev pub Gives : Result Said Malformed → Result Order Fault → Type 0
Gives q (Ok o) = q ≡ Ok (said o)
Gives q (Err (Line m)) = q ≡ Err m
Gives q (Err (Memory e)) = Unit {0}

abbrev pub Parents : Result (List Via) Malformed → Result (Vec Parent Global) Fault → Type 0
Parents q (Ok v) = q ≡ Ok (map via (vec_items v))
Parents q (Err (Line m)) = q ≡ Err m
Parents q (Err (Memory e)) = Unit {0}

-- commit ID GENERATION DATE [PARENT...]
abbrev pub commit_line : List (List ℕ) → Result Said Malformed
commit_line fs =
    by (read_at from_hex AnId fs 2) (λ i.
    by (read_at generation_of AGeneration fs 3) (λ g.
    by (read_at date_of ADate fs 4) (λ d.
    by (each_on parent_of AParent 5 (drop 4 fs)) (λ ps.
    Ok (commit i g d ps)))))

-- name ID TEXT
abbrev pub name_line : List (List ℕ) → Result Said Malformed
name_line fs = by (read_at from_hex AnId fs 2) (λ i. by (text_at AName fs 3) (λ _. by (end_at fs 4) (λ _. Ok (name i))))

-- a word alone
abbrev pub plain_line : Said → List (List ℕ) → Result Said Malformed
plain_line s fs = by (end_at fs 2) (λ _. Ok s)

-- find ID
abbrev pub find_line : List (List ℕ) → Result Said Malformed
find_line fs = by (read_at from_hex AnId fs 2) (λ i. by (end_at fs 3) (λ _. Ok (find i)))

-- read PLACE
abbrev pub read_line : List (List ℕ) → Result Said Malformed
read_line fs = by (read_at decimal_of APlace fs 2) (λ p. by (end_at fs 3) (λ _. Ok (read p)))

-- parent PLACE N
abbrev pub parent_line : List (List ℕ) → Result Said Malformed
parent_line fs =
    by (read_at decimal_of APlace fs 2) (λ p.
    by (read_at decimal_of ANumber fs 3) (λ n.
    by (end_at fs 4) (λ _. Ok (parent p n))))

-- merge-base FIRST [OTHER...], and octopus likewise
abbrev pub ids_line : List (List ℕ) → Result Said Malformed
ids_line fs = by (read_at from_hex AnId fs 2) (λ _. by (checked (each_on from_hex AnId 3 (drop 2 fs))) (λ _. Ok later))

-- describe START [--candidates=N] [--always] [--first-parent]
abbrev pub describe_line : List (List ℕ) → Result Said Malformed
describe_line fs =
    by (read_at from_hex AnId fs 2) (λ _.
    by (checked (each_on (λ t. chosen (option_of t)) AnOption 3 (drop 2 fs))) (λ _. Ok later))

-- a line by its first word
abbrev pub line_by : Word → List (List ℕ) → Result Said Malformed
line_by word.Commit fs = commit_line fs
line_by word.Name fs = name_line fs
line_by word.Count fs = plain_line count fs
line_by word.Capacity fs = plain_line capacity fs
line_by word.Find fs = find_line fs
line_by word.Read fs = read_line fs
line_by word.Parent fs = parent_line fs
line_by word.MergeBase fs = ids_line fs
line_by word.Octopus fs = ids_line fs
line_by word.Describe fs = describe_line fs

-- what a line says, by its fields
abbrev pub line : List (List ℕ) → Result Said Malformed
line fs = by (read_at word_of AWord fs 1) (λ w. line_by w fs)
