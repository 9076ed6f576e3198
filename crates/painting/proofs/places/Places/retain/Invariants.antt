use Rattle.std.proofs.Common.{◌≡◌, ℕ, ◌≤◌, Bool, true, length, get_or, take}
use Rattle.ancestry.specs.Sets.{member, keep}
use Rattle.painting.specs.Listings.{listed}
use Rattle.painting.proofs.places.Places.retain.Given as goal

abbrev pub invariant-loop-i : goal.invariant-loop-i
invariant-loop-i g l =
    ((t : ℕ → Bool) → ((p : ℕ) (b : Bool) → member p (listed l.fn.self) ≡ true → goal.F-post g l.test p b → b ≡ t p) → take l.self.len l.self.slots.now ≡ keep t (take l.i l.fn.self.slots.now))
    × ((j : ℕ) → l.i ≤ j → get_or l.self.slots.now j 0 ≡ get_or l.fn.self.slots.now j 0)
    × (l.self.len ≤ l.i)
    × (length l.self.slots.now ≡ length l.fn.self.slots.now)
    × (l.self.slots.ghost_name ≡ l.fn.self.slots.ghost_name)
