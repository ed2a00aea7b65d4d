-- Terms of inner contracts: a span whose dates are all minutes of a table's interval.
use Rattle.std.specs.Prelude.{ℕ, ◌≤◌, ◌<◌, ℤ}
use Rattle.integers.specs.Range.{Within}
use Rattle.tables.specs.Table.{OnTable}
use Rattle.viewing.specs.Hit.{minute_at}

-- no date of the span is outside, and no sum overflows
pub record SpanFits (table first step : ℤ) (count : ℕ) : Type 0 where
  pub first_near : Within 2630000000 first
  pub step_small : Within 1000000 step
  pub count_small : count ≤ 4000
  pub each : (k : ℕ) → k < count → OnTable table (minute_at first step k)
