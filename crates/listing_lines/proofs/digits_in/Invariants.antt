-- `digits_in` gives the number of one to ten digits, and nothing for any other text.
-- Invariant: what is left to read gives what the whole text gives, and the number so far is below 10^i after i bytes.
use mathlib.Core.Path.{◌≡◌}
use Prim.Native.Nat.{◌^◌, ◌≤◌, ◌<◌}
use lib.ListN.{length, drop}
use Rattle.listing_lines.specs.Request.{digits_after}
use Rattle.listing_lines.proofs.digits_in.Given as goal

abbrev pub invariant-loop-b : goal.invariant-loop-b
invariant-loop-b l = (1 ≤ length l.text) × (length l.text ≤ 10) × (digits_after l.n (drop l.b-index l.text) ≡ digits_after 0 l.text) × (l.n < 10 ^ l.b-index)
