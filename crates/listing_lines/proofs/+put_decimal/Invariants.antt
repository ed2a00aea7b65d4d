-- `put_decimal` puts the digits of a number's tenth first, and its last digit behind them.
-- Measure: the number, since a tenth of it is smaller.
use Rattle.listing_lines.proofs.+put_decimal.Given as goal

abbrev pub decreases-put_decimal : goal.decreases-put_decimal
decreases-put_decimal l = l.n
