-- The memory of a question, and how much it is.
use Rattle.std.specs.Prelude.{◌≡◌, ℕ, ◌≤◌, length}
use Rattle.ancestry.specs.Asking.{Space, space_of}
use Rattle.painting.specs.Listings.{listed, room}
use Rattle.revision.specs.declared.merge_bases.search.Search.{Search}
use Rattle.revision.specs.declared.workspace.Sizes.{Sizes}

-- it suffices for a history of n commits, and no more than those are found
pub record Fits (n : ℕ) (s : Search) : Type 0 where
  pub marks : length s.marks.now ≡ n
  pub queue : n ≤ length s.queue.now
  pub results : n ≤ room s.results
  pub stack : n ≤ length s.stack.now
  pub few : length (listed s.results) ≤ n

-- how much the sizes say is lent
abbrev pub lent : Sizes → Space
lent s = space_of s.marks s.queue s.stack s.answers
