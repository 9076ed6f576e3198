use Rattle.std.proofs.Common.{◌≡◌, ◌^◌, ◌<◌, ap, ◌∙◌, arith}
use Rattle.ancestry.specs.Numbers.{spelled, digits}
use Rattle.ancestry.specs.Ids.{num, Words}
use Rattle.ancestry.proofs.Bytes.{id_bytes_out, num-bits}
use Rattle.ancestry.proofs.Spelling.{spelled-digits}
use Rattle.ancestry.proofs.id.Id.to_bytes.Goals as goal

pub returns : goal.returns
returns c =
    let w : Words c.args.self = record { first = omega arith; second = omega arith; third = omega arith; fourth = omega arith; fifth = omega arith } in
    let bits : num c.args.self < 2 ^ 160 = num-bits c.args.self w in
    let bytes : _ ≡ digits 256 20 (num c.args.self) =
    id_bytes_out c.args.self w _ _ _ _ _ c.to_be_bytes-a.ensures c.to_be_bytes-b.ensures c.to_be_bytes-c.ensures c.to_be_bytes-d.ensures c.to_be_bytes-e.ensures in
    record {
      bytes = bytes;
      back = ap (spelled 256) bytes ∙ spelled-digits 256 20 (num c.args.self) (omega arith) bits;
      bits = bits;
    }
