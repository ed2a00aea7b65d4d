-- A part of the input with one byte more: what is held of a line, and what is printed.
-- A line end prints what is held and lets go of it; any other byte is stored behind what is held, of which there are 36 bytes at most.
use mathlib.Core.Bool.{Bool, true, false}
use mathlib.Core.List.{List, [], ◌∷◌, ◌++◌}
use mathlib.Core.Path.{◌≡◌, refl, sym, ap, subst, ◌∙◌}
use Prim.Native.Nat.{ℕ, ◌+◌, ◌≤◌, ◌<◌}
use native.Mathlib.Omega.{arith}
use lib.ListN.{length, take, get_or, set, length-set}
use lib.Seq.{length-take-le}
use Rattle.listing_lines.specs.declared.held.HeldLine.{HeldLine}
use Rattle.listing_lines.specs.Line.{printed_of}
use Rattle.listing_lines.specs.Put.{Put}
use Rattle.listing_lines.specs.Held.{held_of, one_more}
use Rattle.listing_lines.specs.Stream.{is_end, held_after, printed_after, count_if, text_if, count_after, text_after, IsFed, IsPrinted}
use Rattle.listing_lines.proofs.Puts.{put_none, put_then}
use Rattle.listing_lines.proofs.Stream.{held_end, held_other, printed_end, printed_other, count_end, count_other, text_end, text_other, kept, more_few}

-- nothing yet
pub fed_none : (held : HeldLine) → held.len ≤ 36 → IsFed held [] held
unfolding count_after text_after held_after
fed_none held few = record { count = refl; few = few; text = refl; holds = refl }

pub printed_none : (line bytes : List ℕ) (at : ℕ) → at ≤ length bytes → IsPrinted line [] at bytes bytes at
unfolding printed_after
printed_none line bytes at h = record { prints = put_none bytes at h; within = omega arith }

-- the 36 bytes stay 36
text_long : (n : ℕ) (text l : List ℕ) → length (text_after n text l) ≡ length text
unfolding text_after
text_long n text [] = refl
text_long n text (b ∷ l) = text_long (count_if (is_end b) n) (text_if (is_end b) n text b) l ∙ go (is_end b)
  where
    go : (t : Bool) → length (text_if t n text b) ≡ length text
    go true = refl
    go false = length-set text n b

module _ (before now after : HeldLine) (l : List ℕ) (i : ℕ) (h : i < length l) (f : IsFed before (take i l) now) where
  pub fed_end : get_or l i 0 ≡ 10 → after.len ≡ 0 → after.text ≡ now.text → IsFed before (take (i + 1) l) after
  fed_end e len text = record {
    count = len ∙ sym (count_end (held_of before) l i h e before.len);
    few = omega arith;
    text = text ∙ f.text ∙ sym (text_end (held_of before) l i h e before.len before.text);
    holds = ap (λ (n : ℕ). take n after.text) len ∙ sym (held_end (held_of before) l i h e);
  }

  pub fed_other : (get_or l i 0 ≡ 10 → ⊥) → length before.text ≡ 36 → after.len ≡ one_more now.len → after.text ≡ set now.text now.len (get_or l i 0) → IsFed before (take (i + 1) l) after
  fed_other e all len text =
      let b = get_or l i 0 in
      let long : length now.text ≡ 36 = ap length f.text ∙ text_long before.len before.text (take i l) ∙ all in
      record {
        count = len ∙ ap one_more f.count ∙ sym (count_other (held_of before) l i h e before.len);
        few = subst (λ (n : ℕ). n ≤ 36) (sym len) (more_few now.text now.len b long f.few);
        text = text ∙ (λ j. set (f.text j) (f.count j) b) ∙ sym (text_other (held_of before) l i h e before.len before.text);
        holds = (λ j. take (len j) (text j)) ∙ kept now.text now.len b long f.few ∙ ap (λ (q : List ℕ). take 36 (q ++ (b ∷ []))) f.holds ∙ sym (held_other (held_of before) l i h e);
      }

  module _ {at next : ℕ} {old bytes : List ℕ} (p : IsPrinted (held_of before) (take i l) at old bytes next) where
    pub prints_end : {end : ℕ} {new : List ℕ} → get_or l i 0 ≡ 10 → at ≤ length old → Put next (printed_of (held_of now)) bytes new end → end ≤ next + 147 → IsPrinted (held_of before) (take (i + 1) l) at old new end
    prints_end {end} {new} e room q few = record {
      prints = subst (λ (t : List ℕ). Put at t old new end)
          (ap (λ (q : List ℕ). printed_after (held_of before) (take i l) ++ printed_of q) f.holds ∙ sym (printed_end (held_of before) l i h e))
          (put_then room p.prints q);
      within = omega (arith, p.within, length-take-le i l (omega arith), length-take-le (i + 1) l (omega arith));
    }

    pub prints_other : (get_or l i 0 ≡ 10 → ⊥) → IsPrinted (held_of before) (take (i + 1) l) at old bytes next
    prints_other e = record {
      prints = subst (λ (t : List ℕ). Put at t old bytes next) (sym (printed_other (held_of before) l i h e)) p.prints;
      within = omega (arith, p.within, length-take-le i l (omega arith), length-take-le (i + 1) l (omega arith));
    }
