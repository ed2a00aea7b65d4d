-- Document 01, "Sine": the sine and the cosine of any angle in millionths of a degree, 10^9 standing for one.
use Rattle.std.specs.Prelude.{cond, ℕ, ◌+◌, ◌-◌, ◌*◌, ◌/◌, ◌%◌, min, eqb, ℤ, pos, negsuc, neg_ℤ, nat_abs, ◌+ℤ◌}
use Rattle.angles.specs.Unit.{one_turn}
use Rattle.angles.specs.Entry.{entry}

-- from the entry a to the next, b, which is not smaller: r hundred-thousandths of the way
abbrev pub between : ℕ → ℕ → ℕ → ℕ
between a b r = a + (b - a) * r / 100000

-- t from 0 to 90 degrees: T[k] + floor((T[k+1] - T[k])·r / 100,000). At 90 degrees r is 0, so it is T[900]
unfoldable pub quarter_sine : ℕ → ℕ
quarter_sine t = between (entry (t / 100000)) (entry (t / 100000 + 1)) (t % 100000)

-- t from 0 to 180 degrees, folded to its first quarter
abbrev pub folded : ℕ → ℕ
folded t = min t (180000000 - t)

-- t from 0 to 180 degrees: sin(180° - t) = sin t
unfoldable pub half_sine : ℕ → ℕ
half_sine t = quarter_sine (folded t)

-- sin(-t) = -sin t: the sine of the angle's size, with the angle's sign
abbrev pub with_sign_of : ℤ → ℕ → ℤ
with_sign_of (pos t) s = pos s
with_sign_of (negsuc t) s = neg_ℤ (pos s)

-- any angle is first brought to one turn
unfoldable pub sine_of : ℤ → ℤ
sine_of t = with_sign_of (one_turn t) (half_sine (nat_abs (one_turn t)))

-- the table's step in the tenth of a degree around t, t from 0 to 180 degrees; 0 at 90 degrees, where the table ends. No rule of
-- document 01 asks for it: the solver's guesses go by it
unfoldable pub rise_of : ℕ → ℕ
rise_of t = let k = folded t / 100000 in cond (eqb k 900) 0 (entry (k + 1) - entry k)

-- "the cosine is the sine of t + 90°"
unfoldable pub cosine_of : ℤ → ℤ
cosine_of t = sine_of (t +ℤ pos 90000000)
