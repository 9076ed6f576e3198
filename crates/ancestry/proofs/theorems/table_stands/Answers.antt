use Rattle.ancestry.proofs.Table.{table_stands}
use Rattle.ancestry.proofs.theorems.table_stands.Goals as goal

pub returns : goal.returns
returns c = table_stands
