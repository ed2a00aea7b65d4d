-- The listing in parts: a part behind another, one byte more of a part, and that all parts together print the listing.
-- By recursion on the bytes; what is held is the line so far, cut to 36 bytes, which asks for the same (Long).
use mathlib.Core.Bool.{Bool, true, false, cond}
use mathlib.Core.List.{List, [], ◌∷◌, ◌++◌, append_assoc, append-nil}
use mathlib.Core.Path.{◌≡◌, refl, sym, ap, ◌∙◌}
use Prim.Native.Nat.{ℕ, ◌+◌, ◌≤◌, ◌<◌}
use native.Mathlib.Numerals.{add-one}
use native.Mathlib.Omega.{arith}
use lib.Dec.{leb, ltb}
use lib.ListN.{length, take, get_or, set, length-append}
use lib.Seq.{take-suc, take_all, take_at, take-append-le, take-suc-set, length-take-le, set_out}
use borrow.Author.Tests.{eq-eqb, ne_eqb, leb-true, leb-false, ltb-true, ltb-false}
use Rattle.listing_lines.specs.Line.{line_of, printed_of}
use Rattle.listing_lines.specs.Held.{one_more}
use Rattle.listing_lines.specs.Stream.{is_end, last_of, printed_if, line_if, lines_from, header, listing_of, held_if, held_after, printed_after, count_if, text_if, count_after, text_after}
use Rattle.listing_lines.proofs.Long.{cut}

-- ---- a part behind another
pub held_append : (line xs ys : List ℕ) → held_after line (xs ++ ys) ≡ held_after (held_after line xs) ys
unfolding held_after
held_append line [] ys = refl
held_append line (b ∷ xs) ys = held_append (held_if (is_end b) line b) xs ys

pub printed_append : (line xs ys : List ℕ) → printed_after line (xs ++ ys) ≡ printed_after line xs ++ printed_after (held_after line xs) ys
unfolding held_after printed_after
printed_append line [] ys = refl
printed_append line (b ∷ xs) ys =
    let next = held_if (is_end b) line b in
    ap (λ (l : List ℕ). printed_if (is_end b) line ++ l) (printed_append next xs ys) ∙ sym (append_assoc (printed_if (is_end b) line) (printed_after next xs) (printed_after (held_after next xs) ys))

count_append : (n : ℕ) (xs ys : List ℕ) → count_after n (xs ++ ys) ≡ count_after (count_after n xs) ys
unfolding count_after
count_append n [] ys = refl
count_append n (b ∷ xs) ys = count_append (count_if (is_end b) n) xs ys

text_append : (n : ℕ) (text xs ys : List ℕ) → text_after n text (xs ++ ys) ≡ text_after (count_after n xs) (text_after n text xs) ys
unfolding count_after text_after
text_append n text [] ys = refl
text_append n text (b ∷ xs) ys = text_append (count_if (is_end b) n) (text_if (is_end b) n text b) xs ys

-- ---- one byte more
module _ (line l : List ℕ) (i : ℕ) (h : i < length l) where
  abbrev so_far : List ℕ
  so_far = held_after line (take i l)

  one_more_lem : take (i + 1) l ≡ take i l ++ (get_or l i 0 ∷ [])
  one_more_lem = ap (λ (k : ℕ). take k l) (add-one i) ∙ take-suc l i 0 h

  held_one : held_after line (take (i + 1) l) ≡ held_if (is_end (get_or l i 0)) so_far (get_or l i 0)
  unfolding held_after
  held_one = ap (held_after line) one_more_lem ∙ held_append line (take i l) (get_or l i 0 ∷ [])

  printed_one : printed_after line (take (i + 1) l) ≡ printed_after line (take i l) ++ printed_if (is_end (get_or l i 0)) so_far
  unfolding printed_after
  printed_one =
      ap (printed_after line) one_more_lem ∙ printed_append line (take i l) (get_or l i 0 ∷ [])
      ∙ ap (λ (t : List ℕ). printed_after line (take i l) ++ t) (append-nil (printed_if (is_end (get_or l i 0)) so_far))

  -- the bytes in which it is held, and how many they are
  pub count_one : (n : ℕ) → count_after n (take (i + 1) l) ≡ count_if (is_end (get_or l i 0)) (count_after n (take i l))
  unfolding count_after
  count_one n = ap (count_after n) one_more_lem ∙ count_append n (take i l) (get_or l i 0 ∷ [])

  pub text_one : (n : ℕ) (text : List ℕ) → text_after n text (take (i + 1) l) ≡ text_if (is_end (get_or l i 0)) (count_after n (take i l)) (text_after n text (take i l)) (get_or l i 0)
  unfolding text_after
  text_one n text = ap (text_after n text) one_more_lem ∙ text_append n text (take i l) (get_or l i 0 ∷ [])

  -- a line end: what is held is printed, and nothing is held
  module _ (e : get_or l i 0 ≡ 10) where
    pub held_end : held_after line (take (i + 1) l) ≡ []
    held_end = held_one ∙ ap (λ (t : Bool). held_if t so_far (get_or l i 0)) (eq-eqb (get_or l i 0) 10 e)

    pub count_end : (n : ℕ) → count_after n (take (i + 1) l) ≡ 0
    count_end n = count_one n ∙ ap (λ (t : Bool). count_if t (count_after n (take i l))) (eq-eqb (get_or l i 0) 10 e)

    pub text_end : (n : ℕ) (text : List ℕ) → text_after n text (take (i + 1) l) ≡ text_after n text (take i l)
    text_end n text = text_one n text ∙ ap (λ (t : Bool). text_if t (count_after n (take i l)) (text_after n text (take i l)) (get_or l i 0)) (eq-eqb (get_or l i 0) 10 e)

    pub printed_end : printed_after line (take (i + 1) l) ≡ printed_after line (take i l) ++ printed_of so_far
    printed_end = printed_one ∙ ap (λ (t : Bool). printed_after line (take i l) ++ printed_if t so_far) (eq-eqb (get_or l i 0) 10 e)

  -- any other byte is held
  module _ (e : get_or l i 0 ≡ 10 → ⊥) where
    pub held_other : held_after line (take (i + 1) l) ≡ take 36 (so_far ++ (get_or l i 0 ∷ []))
    held_other = held_one ∙ ap (λ (t : Bool). held_if t so_far (get_or l i 0)) (ne_eqb (get_or l i 0) 10 e)

    pub count_other : (n : ℕ) → count_after n (take (i + 1) l) ≡ one_more (count_after n (take i l))
    count_other n = count_one n ∙ ap (λ (t : Bool). count_if t (count_after n (take i l))) (ne_eqb (get_or l i 0) 10 e)

    pub text_other : (n : ℕ) (text : List ℕ) → text_after n text (take (i + 1) l) ≡ set (text_after n text (take i l)) (count_after n (take i l)) (get_or l i 0)
    text_other n text = text_one n text ∙ ap (λ (t : Bool). text_if t (count_after n (take i l)) (text_after n text (take i l)) (get_or l i 0)) (ne_eqb (get_or l i 0) 10 e)

    pub printed_other : printed_after line (take (i + 1) l) ≡ printed_after line (take i l)
    printed_other =
        printed_one ∙ ap (λ (t : Bool). printed_after line (take i l) ++ printed_if t so_far) (ne_eqb (get_or l i 0) 10 e) ∙ append-nil (printed_after line (take i l))

-- ---- a byte stored behind those that are held, of which there are 36 at most
module _ (text : List ℕ) (n b : ℕ) (h : length text ≡ 36) (few : n ≤ 36) where
  pub kept : take (one_more n) (set text n b) ≡ take 36 (take n text ++ (b ∷ []))
  kept = go (ltb n 36) (ltb-true n 36) (ltb-false n 36)
    where
      go : (t : Bool) → (t ≡ true → n < 36) → (t ≡ false → 36 ≤ n) → take (cond t (n + 1) n) (set text n b) ≡ take 36 (take n text ++ (b ∷ []))
      go true f g =
          let l = f refl in
          ap (λ (k : ℕ). take k (set text n b)) (add-one n) ∙ take-suc-set text n b (omega arith)
          ∙ sym (take_all 36 (take n text ++ (b ∷ [])) (omega (arith, length-append (take n text) (b ∷ []), length-take-le n text (omega arith))))
      go false f g =
          let l = g refl in
          ap (take n) (set_out text n b (omega arith)) ∙ sym (take_at (take n text) (b ∷ []) 36 (length-take-le n text (omega arith) ∙ omega arith))

  pub more_few : one_more n ≤ 36
  more_few = go (ltb n 36) (ltb-true n 36)
    where
      go : (t : Bool) → (t ≡ true → n < 36) → cond t (n + 1) n ≤ 36
      go true f = let l = f refl in omega arith
      go false f = few

-- ---- a last line of no byte
pub last_none : (l : List ℕ) → length l ≡ 0 → last_of l ≡ []
last_none [] h = refl
last_none (b ∷ l) h = absurd (omega arith)

-- ---- a last line that is not empty
pub last_is : (l : List ℕ) → 0 < length l → last_of l ≡ printed_of l
last_is [] h = absurd (omega arith)
last_is (b ∷ l) h = refl

-- ---- all parts together
cut_again : (line : List ℕ) (b : ℕ) → take 36 (take 36 line ++ (b ∷ [])) ≡ take 36 (line ++ (b ∷ []))
cut_again line b = go (leb (length line) 36) (leb-true (length line) 36) (leb-false (length line) 36)
  where
    go : (t : Bool) → (t ≡ true → length line ≤ 36) → (t ≡ false → 36 < length line) → take 36 (take 36 line ++ (b ∷ [])) ≡ take 36 (line ++ (b ∷ []))
    go true f g = ap (λ (l : List ℕ). take 36 (l ++ (b ∷ []))) (take_all 36 line (f refl))
    go false f g =
        let long : 36 ≤ length line = omega (arith, g refl) in
        take_at (take 36 line) (b ∷ []) 36 (length-take-le 36 line long) ∙ sym (take-append-le 36 line (b ∷ []) long)

last_cut : (line : List ℕ) → last_of line ≡ last_of (take 36 line)
last_cut [] = refl
last_cut (b ∷ l) = ap line_of (sym (cut (b ∷ l)))

pub in_parts : (line input : List ℕ) → lines_from line input ≡ printed_after (take 36 line) input ++ last_of (held_after (take 36 line) input)
unfolding lines_from held_after printed_after
in_parts line [] = last_cut line
in_parts line (b ∷ l) = go (is_end b) (in_parts [] l) (in_parts (line ++ (b ∷ [])) l)
  where
    go : (t : Bool) → lines_from [] l ≡ printed_after [] l ++ last_of (held_after [] l) → lines_from (line ++ (b ∷ [])) l ≡ printed_after (take 36 (line ++ (b ∷ []))) l ++ last_of (held_after (take 36 (line ++ (b ∷ []))) l) → printed_if t line ++ lines_from (line_if t line b) l ≡ (printed_if t (take 36 line) ++ printed_after (held_if t (take 36 line) b) l) ++ last_of (held_after (held_if t (take 36 line) b) l)
    go true f g =
        (λ i. line_of (sym (cut line) i) ++ f i) ∙ sym (append_assoc (printed_of (take 36 line)) (printed_after [] l) (last_of (held_after [] l)))
    go false f g = g ∙ (λ i. printed_after (sym (cut_again line b) i) l ++ last_of (held_after (sym (cut_again line b) i) l))

-- the header, what the parts print, and the last line
pub listing_in_parts : (input : List ℕ) → listing_of input ≡ header ++ (printed_after [] input ++ last_of (held_after [] input))
unfolding listing_of
listing_in_parts input = ap (λ (l : List ℕ). header ++ l) (in_parts [] input)
