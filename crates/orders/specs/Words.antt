-- The words that lines begin with, and the options of describe.
use Rattle.std.specs.Prelude.{ℕ, Bool, cond, ◌&&◌, ◌||◌, List, take, drop, is_some, Some, None, codes, Option}
use Rattle.std.specs.Str.{bytes_eq}
use Rattle.orders.specs.Spelling.{decimal_of}
use Rattle.orders.specs.declared.words.Word.{Word}
use Rattle.orders.specs.declared.words.Word.TheVariants.{Commit, Name, Count, Capacity, Find, Read, Parent, MergeBase, Octopus, Describe}

-- the first word of a line
abbrev pub word_of : List ℕ → Option Word
word_of t =
    cond (bytes_eq t (codes "commit")) (Some Commit)
    (cond (bytes_eq t (codes "name")) (Some Name)
    (cond (bytes_eq t (codes "count")) (Some Count)
    (cond (bytes_eq t (codes "capacity")) (Some Capacity)
    (cond (bytes_eq t (codes "find")) (Some Find)
    (cond (bytes_eq t (codes "read")) (Some Read)
    (cond (bytes_eq t (codes "parent")) (Some Parent)
    (cond (bytes_eq t (codes "merge-base")) (Some MergeBase)
    (cond (bytes_eq t (codes "octopus")) (Some Octopus)
    (cond (bytes_eq t (codes "describe")) (Some Describe) None)))))))))

-- `--candidates=` and then a number
abbrev pub limit_of : List ℕ → Bool
limit_of t = bytes_eq (take 13 t) (codes "--candidates=") && is_some (decimal_of (drop 13 t))

-- an option of describe
abbrev pub option_of : List ℕ → Bool
option_of t = bytes_eq t (codes "--always") || (bytes_eq t (codes "--first-parent") || limit_of t)
