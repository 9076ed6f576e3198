use Rattle.ancestry.proofs.Bytes.{id_law}
use Rattle.ancestry.proofs.Letters.{hex_law}
use Rattle.ancestry.proofs.Compared.{order_law}
use Rattle.ancestry.proofs.Reach.{reaching_law}
use Rattle.ancestry.proofs.Join.{place_law, swap_law, join_law}
use Rattle.ancestry.proofs.Unique.{best_law}
use Rattle.ancestry.proofs.Intakes.{refusal_law, growth_law, intake_law, unchanged_law}
use Rattle.ancestry.proofs.Dates.{nearest_law}
use Rattle.ancestry.proofs.theorems.laws_stand.Goals as goal

pub returns : goal.returns
returns c = record {
  ids = id_law;
  letters = hex_law;
  compared = order_law;
  places = place_law;
  reaching = reaching_law;
  best = best_law;
  swapped = swap_law;
  joined = join_law;
  refusal = refusal_law;
  growth = growth_law;
  intake = intake_law;
  unchanged = unchanged_law;
  nearest = nearest_law;
}
