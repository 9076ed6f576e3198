-- The finishing walk, which makes the depth of the chosen name exact.
use Rattle.std.specs.Prelude.{ℕ, zero, suc, ◌+◌, ◌-◌, Bool, true, false, cond, not, ◌&&◌, ◌||◌, List, Some, None, Option, ◌==◌}
use Rattle.ancestry.specs.Sets.{every}
use Rattle.ancestry.specs.Commits.{Commit}
use Rattle.ancestry.specs.Naming.{Asked, followed}
use Rattle.ancestry.specs.Walk.{Walk, by_date, first_of, taken, handed, ended}

-- the state of the finishing walk, and the depth so far
pub record Finish : Type 0 where
  pub state : Walk
  pub depth : ℕ

-- the commit set aside, if one was, waits again, and is not counted as seen
unfoldable pub returned : Option ℕ → Walk → Walk
returned None w = record {
  waiting = w.waiting;
  met = w.met;
  marks = w.marks;
  seen = w.seen;
  found = w.found;
  counts = w.counts;
  aside = None;
  over = false;
}
returned (Some p) w = record {
  waiting = λ q. w.waiting q || (q == p);
  met = w.met;
  marks = w.marks;
  seen = w.seen - 1;
  found = w.found;
  counts = w.counts;
  aside = None;
  over = false;
}

unfoldable pub back : Walk → Walk
back w = returned w.aside w

-- for the chosen candidate m: stop once the commit taken and all still waiting have its mark; a commit that lacks the mark
-- adds 1 to the depth; then hand on
unfoldable pub finish_turn : List Commit → Asked → ℕ → Option ℕ → Finish → Finish
finish_turn H a m None f = record { state = ended f.state; depth = f.depth }
finish_turn H a m (Some p) f =
    let w : Walk = taken p f.state in
    cond (w.marks p m && every (λ q. not (w.waiting q) || w.marks q m) (by_date H))
    (record { state = ended w; depth = f.depth })
    (record { state = handed p (followed H a p) w; depth = cond (w.marks p m) f.depth (f.depth + 1) })

unfoldable pub finish_step : List Commit → Asked → ℕ → Bool → Finish → Finish
finish_step H a m true f = f
finish_step H a m false f = finish_turn H a m (first_of H f.state.waiting) f

-- k turns
unfoldable pub finish : List Commit → Asked → ℕ → ℕ → Finish → Finish
finish H a m zero f = f
finish H a m (suc k) f = finish H a m k (finish_step H a m f.state.over f)
