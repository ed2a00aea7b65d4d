-- `number_in` is the number in the bytes lent.
-- Invariant: what n and the bytes still to come stand for is the number; after i bytes n is below 2^(8 i), so that no product or sum
-- leaves 64 bits.
use mathlib.Core.Path.{◌≡◌}
use Prim.Native.Nat.{◌*◌, ◌^◌, ◌<◌}
use lib.ListN.{drop}
use Rattle.layouts.specs.Bytes.{big_from, big_number}
use Rattle.layouts.proofs.number_in.Given as goal

abbrev pub invariant-loop-byte : goal.invariant-loop-byte
invariant-loop-byte l = (big_from l.n (drop l.byte-index l.bytes) ≡ big_number l.bytes) × (l.n < 2 ^ (8 * l.byte-index))
