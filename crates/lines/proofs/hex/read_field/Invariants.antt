use Rattle.std.proofs.Common.{◌≡◌, ◌<◌, ◌^◌, drop}
use Rattle.lines.specs.Hex.{read_on}
use Rattle.lines.proofs.hex.read_field.Given as goal

abbrev pub invariant-loop-c : goal.invariant-loop-c
invariant-loop-c l = record {
  small : l.n < 16 ^ l.c-index;
  same : read_on l.n (drop l.c-index l.part) ≡ read_on 0 l.part;
}
