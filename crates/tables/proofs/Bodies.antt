-- What follows from a body of a number: it has that number, and there is the body exactly where the number's test says so.
-- By the outcome of the test; a number from 1 to 9 stands at its place in the list of bodies.
use native.Mathlib.Omega.{arith}
use mathlib.Core.Bool.{Bool, true, false}
use mathlib.Core.Path.{◌≡◌, refl, sym, ap, ◌∙◌}
use Prim.Native.Nat.{ℕ, suc, zero, ◌-◌, ◌≤◌}
use lib.IntN.{ℤ, pos, negsuc, nat_abs}
use lib.ListN.{get_or}
use Rattle.std.specs.Prelude.{Ok, Err}
use Rattle.integers.proofs.Difference.{zarith}
use Rattle.integers.proofs.Ranges.{inside_of, of_test}
use Rattle.refusals.specs.declared.Refusal.{Refusal}
use Rattle.refusals.specs.declared.Refusal.TheVariants.{NoSuchBody}
use Rattle.tables.specs.declared.Body.{Body}
use Rattle.tables.specs.declared.Body.TheVariants.{Mercury, Venus, Earth, Mars, Jupiter, Saturn, Uranus, Neptune, Pluto}
use Rattle.tables.specs.Table.{is_body, Body as KnownBody}
use Rattle.tables.specs.Bodies.{body_number, bodies, body_if, body_of}

-- every body has a number from 1 to 9
pub body_known : (body : Body) → KnownBody (body_number body)
body_known Mercury = of_test (pos 1) (pos 9) (pos 1) tt
body_known Venus = of_test (pos 1) (pos 9) (pos 2) tt
body_known Earth = of_test (pos 1) (pos 9) (pos 3) tt
body_known Mars = of_test (pos 1) (pos 9) (pos 4) tt
body_known Jupiter = of_test (pos 1) (pos 9) (pos 5) tt
body_known Saturn = of_test (pos 1) (pos 9) (pos 6) tt
body_known Uranus = of_test (pos 1) (pos 9) (pos 7) tt
body_known Neptune = of_test (pos 1) (pos 9) (pos 8) tt
body_known Pluto = of_test (pos 1) (pos 9) (pos 9) tt

listed : (k : ℕ) → 1 ≤ k → k ≤ 9 → body_number (get_or bodies (k - 1) Mercury) ≡ pos k
listed zero l h = absurd (omega arith)
listed (suc zero) l h = refl
listed (suc (suc zero)) l h = refl
listed (suc (suc (suc zero))) l h = refl
listed (suc (suc (suc (suc zero)))) l h = refl
listed (suc (suc (suc (suc (suc zero))))) l h = refl
listed (suc (suc (suc (suc (suc (suc zero)))))) l h = refl
listed (suc (suc (suc (suc (suc (suc (suc zero))))))) l h = refl
listed (suc (suc (suc (suc (suc (suc (suc (suc zero)))))))) l h = refl
listed (suc (suc (suc (suc (suc (suc (suc (suc (suc zero))))))))) l h = refl
listed (suc (suc (suc (suc (suc (suc (suc (suc (suc (suc k)))))))))) l h = absurd (omega arith)

numbered : (n : ℤ) → KnownBody n → body_number (get_or bodies (nat_abs n - 1) Mercury) ≡ n
numbered (pos k) h = listed k (omega (zarith, h.low)) (omega (zarith, h.high))
numbered (negsuc k) h = absurd h.low.le

-- the body of a number has that number, and the number is one of a body
pub body_is : (n : ℤ) (body : Body) → body_of n ≡ Ok body → (body_number body ≡ n) × (is_body n ≡ true)
unfolding body_of
body_is n body e = go (is_body n) refl e
  where
    go : (b : Bool) → is_body n ≡ b → body_if b n ≡ Ok body → (body_number body ≡ n) × (is_body n ≡ true)
    go true t f =
        let g : get_or bodies (nat_abs n - 1) Mercury ≡ body = cc in
        (sym (ap body_number g) ∙ numbered n (inside_of (pos 1) (pos 9) n t), t)
    go false t f = let z : ◌≡◌ {A = ℕ} 0 1 = cc in absurd (omega arith)

-- where there is no body of a number, its test says so, and the refusal is 3
pub no_body_is : (n : ℤ) (refusal : Refusal) → body_of n ≡ Err refusal → (refusal ≡ NoSuchBody) × (is_body n ≡ false)
unfolding body_of
no_body_is n refusal e = go (is_body n) refl e
  where
    go : (b : Bool) → is_body n ≡ b → body_if b n ≡ Err refusal → (refusal ≡ NoSuchBody) × (is_body n ≡ false)
    go true t f = let z : ◌≡◌ {A = ℕ} 0 1 = cc in absurd (omega arith)
    go false t f = let g : NoSuchBody ≡ refusal = cc in (sym g, t)
