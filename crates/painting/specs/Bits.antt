-- Marks as they are lent: a number for each place, a bit for each flag.
use Rattle.std.specs.Prelude.{ℕ, cond, not, List, map, ◌==◌, bit_and, bit_or}
use Rattle.painting.specs.declared.marks.Mark.{Mark}

abbrev pub of_bits : ℕ → Mark
of_bits n = record {
  first = not (bit_and n 1 == 0);
  others = not (bit_and n 2 == 0);
  stale = not (bit_and n 4 == 0);
  result = not (bit_and n 8 == 0);
  waiting = not (bit_and n 16 == 0);
  met = not (bit_and n 32 == 0);
}

abbrev pub bits : Mark → ℕ
bits m =
    bit_or
    (bit_or (bit_or (bit_or (bit_or (cond m.first 1 0) (cond m.others 2 0)) (cond m.stale 4 0)) (cond m.result 8 0))
    (cond m.waiting 16 0)) (cond m.met 32 0)

-- the marks that the numbers stand for
unfoldable pub flags : List ℕ → List Mark
flags ms = map of_bits ms
