-- A moment that is accepted for a body: there is the table, its minute lies in the interval, and there is the body.
-- The answer goes by the test of the body, so the law goes by its outcome.
use mathlib.Core.Bool.{Bool, true, false}
use mathlib.Core.Path.{◌≡◌, refl}
use Prim.Native.Nat.{ℕ}
use native.Mathlib.Omega.{arith}
use lib.IntN.{ℤ, pos}
use Rattle.integers.proofs.Ranges.{inside_of}
use Rattle.dates.specs.declared.Date.{Date}
use Rattle.tables.specs.Table.{Body, is_body, OnTable, moment_after}
use Rattle.tables.proofs.Laws.{after_inside}
use Rattle.orbits.specs.Answer.{body_if, body_moment}
use Rattle.std.specs.Prelude.{Err, Ok, Result}
use Rattle.refusals.specs.declared.Refusal.{Refusal}

pub body_accepted : (date : Date) (table body m : ℤ) → body_moment date table body ≡ Ok m → Body body × OnTable table m
unfolding body_moment
body_accepted date table body m e = go (is_body body) (moment_after date table (pos 0)) refl (after_inside date table (pos 0) m) e
  where
    go : (b : Bool) (o : Result ℤ Refusal) → is_body body ≡ b → (o ≡ Ok m → OnTable table m) → body_if b o ≡ Ok m → Body body × OnTable table m
    go true o t k f = (inside_of (pos 1) (pos 9) body t, k f)
    go false (Ok n) t k f = let z : ◌≡◌ {A = ℕ} 0 1 = cc in absurd (omega arith)
    go false (Err r) t k f = let z : ◌≡◌ {A = ℕ} 0 1 = cc in absurd (omega arith)
