-- What follows from a frame of a number: it has that number, and there is the frame exactly where the number's test says so.
-- By the outcome of the test; a number from 1 to 5 stands at its place in the list of frames.
use native.Mathlib.Omega.{arith}
use mathlib.Core.Bool.{Bool, true, false}
use mathlib.Core.Path.{◌≡◌, refl, sym, ap, ◌∙◌}
use Prim.Native.Nat.{ℕ, suc, zero, ◌-◌, ◌≤◌}
use lib.IntN.{ℤ, pos, negsuc, nat_abs}
use lib.ListN.{get_or}
use Rattle.std.specs.Prelude.{Ok, Err}
use Rattle.integers.proofs.Difference.{zarith}
use Rattle.integers.proofs.Ranges.{inside_of, of_test}
use Rattle.refusals.specs.declared.Refusal.{Refusal}
use Rattle.refusals.specs.declared.Refusal.TheVariants.{NoSuchFrame}
use Rattle.frames.specs.declared.Frame.{Frame}
use Rattle.frames.specs.declared.Frame.TheVariants.{Hae, Gei, Hci, Hee, Heeq}
use Rattle.frames.specs.Frame.{KnownFrame, is_frame}
use Rattle.frames.specs.Frames.{frame_number, frames, frame_if, frame_of}

-- every frame has a number from 1 to 5
pub frame_known : (f : Frame) → KnownFrame (frame_number f)
frame_known Hae = of_test (pos 1) (pos 5) (pos 1) tt
frame_known Gei = of_test (pos 1) (pos 5) (pos 2) tt
frame_known Hci = of_test (pos 1) (pos 5) (pos 3) tt
frame_known Hee = of_test (pos 1) (pos 5) (pos 4) tt
frame_known Heeq = of_test (pos 1) (pos 5) (pos 5) tt

listed : (k : ℕ) → 1 ≤ k → k ≤ 5 → frame_number (get_or frames (k - 1) Hae) ≡ pos k
listed zero l h = absurd (omega arith)
listed (suc zero) l h = refl
listed (suc (suc zero)) l h = refl
listed (suc (suc (suc zero))) l h = refl
listed (suc (suc (suc (suc zero)))) l h = refl
listed (suc (suc (suc (suc (suc zero))))) l h = refl
listed (suc (suc (suc (suc (suc (suc k)))))) l h = absurd (omega arith)

numbered : (n : ℤ) → KnownFrame n → frame_number (get_or frames (nat_abs n - 1) Hae) ≡ n
numbered (pos k) h = listed k (omega (zarith, h.low)) (omega (zarith, h.high))
numbered (negsuc k) h = absurd h.low.le

-- the frame of a number has that number, and the number is one of a frame
pub frame_is : (n : ℤ) (f : Frame) → frame_of n ≡ Ok f → (frame_number f ≡ n) × (is_frame n ≡ true)
unfolding frame_of
frame_is n f e = go (is_frame n) refl e
  where
    go : (b : Bool) → is_frame n ≡ b → frame_if b n ≡ Ok f → (frame_number f ≡ n) × (is_frame n ≡ true)
    go true t h =
        let g : get_or frames (nat_abs n - 1) Hae ≡ f = cc in
        (sym (ap frame_number g) ∙ numbered n (inside_of (pos 1) (pos 5) n t), t)
    go false t h = let z : ◌≡◌ {A = ℕ} 0 1 = cc in absurd (omega arith)

-- where there is no frame of a number, its test says so, and the refusal is 4
pub no_frame_is : (n : ℤ) (r : Refusal) → frame_of n ≡ Err r → (r ≡ NoSuchFrame) × (is_frame n ≡ false)
unfolding frame_of
no_frame_is n r e = go (is_frame n) refl e
  where
    go : (b : Bool) → is_frame n ≡ b → frame_if b n ≡ Err r → (r ≡ NoSuchFrame) × (is_frame n ≡ false)
    go true t h = let z : ◌≡◌ {A = ℕ} 0 1 = cc in absurd (omega arith)
    go false t h = let g : NoSuchFrame ≡ r = cc in (sym g, t)
