-- Document 01, "Sine": entry n of the table is floor(10^9·S + 1/2), S being x - x^3/3! + ... + x^17/17! with
-- x = n·p/1800 and p = 3141592653589793/10^15. So x = n·3141592653589793 / 1800·10^15, and over the common denominator
-- 17!·(1800·10^15)^17 every term is a whole number.
use Rattle.std.specs.Prelude.{ℕ, zero, suc, ◌+◌, ◌-◌, ◌*◌, ◌/◌, ◌^◌}

unfoldable pub factorial : ℕ → ℕ
factorial zero = 1
factorial (suc n) = suc n * factorial n

-- x is n·3141592653589793 over this
unfoldable pub part : ℕ
part = 1800 * 10 ^ 15

-- the common denominator
unfoldable pub whole : ℕ
whole = factorial 17 * part ^ 17

-- x^k / k!, for x = a / part, over the common denominator
unfoldable pub term : ℕ → ℕ → ℕ
term a k = a ^ k * part ^ (17 - k) * (factorial 17 / factorial k)

-- the terms with a plus, and those with a minus
unfoldable pub plus_terms : ℕ → ℕ
plus_terms a = term a 1 + term a 5 + term a 9 + term a 13 + term a 17

unfoldable pub minus_terms : ℕ → ℕ
minus_terms a = term a 3 + term a 7 + term a 11 + term a 15

-- floor(10^9·S + 1/2)
unfoldable pub entry : ℕ → ℕ
entry n = (2 * 10 ^ 9 * (plus_terms (n * 3141592653589793) - minus_terms (n * 3141592653589793)) + whole) / (2 * whole)
