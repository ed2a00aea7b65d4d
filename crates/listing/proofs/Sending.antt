-- Bytes that are read and written, one lot behind another.
-- What is known of a writer or a reader is a list; where nothing is known of it, nothing is claimed.
use mathlib.Core.Bool.{Bool, true, false}
use mathlib.Core.List.{List, [], ◌++◌, append_assoc, append-nil}
use mathlib.Core.Logic.{◌⊎◌, inl, inr}
use mathlib.Core.Path.{◌≡◌, refl, sym, ap, subst, ◌∙◌}
use Prim.Native.Nat.{ℕ, ◌+◌, ◌-◌, ◌^◌, ◌≤◌, ◌<◌}
use native.Mathlib.Omega.{arith}
use lib.ListN.{length, take, drop, length-append}
use lib.Seq.{take_at, length-take-le}
use Rattle.std.specs.declared.option.Option.{Option}
use Rattle.std.specs.declared.result.Result.{Result}
use Rattle.std.specs.Prelude.{None, Some, Ok, Err, IfSome, OnOk}
use Rattle.std.specs.Io.KnownBytes.{Appends, Consumes, IsAtEnd}
use Rattle.integers.specs.Buffer.{replaced}
use Rattle.listing_lines.specs.Put.{Put}
use Rattle.listing_lines.specs.Stream.{header, last_of, lines_from, listing_of, held_after, printed_after}
use Rattle.listing_lines.proofs.Stream.{held_append, printed_append, in_parts}
use Rattle.listing.specs.Listing.{Sends, IsTurn}

-- ---- one lot behind another
appends_then : (a b c : Option (List ℕ)) (x y : List ℕ) → Appends a b x → Appends b c y → Appends a c (x ++ y)
appends_then None b c x y p q = tt
appends_then (Some s) None c x y p q = absurd p
appends_then (Some s) (Some t) None x y p q = absurd q
appends_then (Some s) (Some t) (Some u) x y p q = q ∙ ap (λ (l : List ℕ). l ++ y) p ∙ append_assoc s x y

appends_none : (a : Option (List ℕ)) → Appends a a []
appends_none None = tt
appends_none (Some s) = sym (append-nil s)

pub consumes_then : (a b c : Option (List ℕ)) (x y : List ℕ) → Consumes a b x → Consumes b c y → Consumes a c (x ++ y)
consumes_then None b c x y p q = tt
consumes_then (Some s) None c x y p q = absurd p
consumes_then (Some s) (Some t) None x y p q = absurd q
consumes_then (Some s) (Some t) (Some u) x y p q = p ∙ ap (λ (l : List ℕ). x ++ l) q ∙ sym (append_assoc x y u)

pub consumes_none : (a : Option (List ℕ)) → Consumes a a []
consumes_none None = tt
consumes_none (Some s) = refl

-- where a call did not fail
pub on_ok : {T E P Q : Type 0} (r : Result T E) → (P → Q) → OnOk r P → OnOk r Q
on_ok (Ok x) f p = f p
on_ok (Err e) f p = tt

-- ---- what is ready, and what of it is written
pub sends_none : (a : Option (List ℕ)) (r : List ℕ) → Sends a a r r
sends_none a r = record { sent = []; written = appends_none a; all = refl }

sends_then : {a b c : Option (List ℕ)} {r l m : List ℕ} → Sends a b r l → Sends b c l m → Sends a c r m
sends_then {a} {b} {c} {m = m} p q = record {
  sent = p.sent ++ q.sent;
  written = appends_then a b c p.sent q.sent p.written q.written;
  all = p.all ∙ ap (λ (t : List ℕ). p.sent ++ t) q.all ∙ sym (append_assoc p.sent q.sent m);
}

-- more is ready behind it
sends_more : {a b : Option (List ℕ)} {r l : List ℕ} (x : List ℕ) → Sends a b r l → Sends a b (r ++ x) (l ++ x)
sends_more {l = l} x p = record { sent = p.sent; written = p.written; all = ap (λ (t : List ℕ). t ++ x) p.all ∙ append_assoc p.sent l x }

-- more is ready behind it, and all that is left is written
pub sends_all : {a b : Option (List ℕ)} {r l : List ℕ} (c : Option (List ℕ)) (x : List ℕ) → Sends a b r l → Appends b c (l ++ x) → Appends a c (r ++ x)
sends_all {a} {b} {r} {l} c x p q =
    let s = sends_more x p in
    subst (Appends a c) (sym s.all) (appends_then a b c s.sent (l ++ x) s.written q)

-- bytes that were put behind those that were ready
pub put_behind : {at e : ℕ} {x l m : List ℕ} → at ≤ length l → Put at x l m e → take e m ≡ take at l ++ x
unfolding replaced
put_behind {at} {e} {x} {l} {m} h p =
    let front = take at l in
    let back = drop (at + length x) l in
    let long : length (front ++ x) ≡ at + length x = length-append front x ∙ ap (λ (n : ℕ). n + length x) (length-take-le at l h) in
    (λ i. take (p.next i) (p.bytes i))
    ∙ ap (take (at + length x)) (sym (append_assoc front x back))
    ∙ take_at (front ++ x) back (at + length x) long

-- ---- a part of a block behind those before it
module _ (line done part : List ℕ) {held : List ℕ} (same : held ≡ held_after line done) where
  pub part_held : held_after held part ≡ held_after line (done ++ part)
  part_held = ap (λ (l : List ℕ). held_after l part) same ∙ sym (held_append line done part)

  part_printed : printed_after line done ++ printed_after held part ≡ printed_after line (done ++ part)
  part_printed = ap (λ (l : List ℕ). printed_after line done ++ printed_after l part) same ∙ sym (printed_append line done part)

  pub part_sends : {before mid after : Option (List ℕ)} {ready free left : List ℕ} (r : List ℕ) → Sends before mid (r ++ printed_after line done) ready → Sends mid after ready free → left ≡ free ++ printed_after held part → Sends before after (r ++ printed_after line (done ++ part)) left
  part_sends {before} {mid} {after} {ready} {free} {left} r p q put =
      let x = printed_after held part in
      let there : (r ++ printed_after line done) ++ x ≡ r ++ printed_after line (done ++ part) =
      append_assoc r (printed_after line done) x ∙ ap (λ (l : List ℕ). r ++ l) part_printed in
      let s = sends_more x (sends_then p q) in
      record { sent = s.sent; written = s.written; all = sym there ∙ s.all ∙ ap (λ (l : List ℕ). s.sent ++ l) (sym put) }

-- ---- a read behind those before it
pub no_turn : (input rest before : Option (List ℕ)) (line ready buffer : List ℕ) (n : ℕ) → n ≡ 0 → Consumes input rest (take n buffer) → IsAtEnd rest → IsTurn input rest before before line line ready ready false
unfolding held_after printed_after
no_turn input rest before line ready buffer n z p e = record {
  block = [];
  read = subst (λ (k : ℕ). Consumes input rest (take k buffer)) z p;
  holds = refl;
  sends = record { sent = []; written = appends_none before; all = append-nil ready };
  some = λ f. (let two : ◌≡◌ {A = Bool} false true = f in cc);
  end = λ f. e;
}

module _ {input rest mid after : Option (List ℕ)} {line held ready left : List ℕ} {more : Bool} (t : IsTurn input rest mid after line held ready left more) (read : List ℕ) where
  module _ (same : line ≡ held_after [] read) where
    pub turn_held : held ≡ held_after [] (read ++ t.block)
    turn_held = t.holds ∙ ap (λ (l : List ℕ). held_after l t.block) same ∙ sym (held_append [] read t.block)

    pub turn_sends : {before : Option (List ℕ)} → Sends before mid (printed_after [] read) ready → Sends before after (printed_after [] (read ++ t.block)) left
    turn_sends {before} p =
        subst (λ (l : List ℕ). Sends before after l left)
        (ap (λ (l : List ℕ). printed_after [] read ++ printed_after l t.block) same ∙ sym (printed_append [] read t.block))
        (sends_then (sends_more (printed_after line t.block) p) t.sends)

-- ---- all that was read: to the end, or more than any input that is spoken of
pub all_printed : (start rest before mid after : Option (List ℕ)) (read held ready : List ℕ) → Consumes start rest read → held ≡ held_after [] read → Sends before mid (printed_after [] read) ready → (2 ^ 64 - 1 ≤ length read) ⊎ IsAtEnd rest → Appends mid after (ready ++ last_of held) → IfSome start (λ bytes. length bytes < 2 ^ 64 - 1 → Appends before after (lines_from [] bytes))
all_printed None rest before mid after read held ready p same s end w = tt
all_printed (Some bytes) None before mid after read held ready p same s end w = absurd p
all_printed (Some bytes) (Some rest) before mid after read held ready p same s (inl l) w = λ few. absurd (omega (arith, few, l, ap length p, length-append read rest))
all_printed (Some bytes) (Some rest) before mid after read held ready p same s (inr end) w = λ few.
    let all : bytes ≡ read = p ∙ ap (λ (l : List ℕ). read ++ l) end ∙ append-nil read in
    subst (Appends before after)
    (ap (λ (l : List ℕ). printed_after [] read ++ last_of l) same ∙ sym (ap (lines_from []) all ∙ in_parts [] read))
    (sends_all after (last_of held) s w)

-- the header, and then all lines
pub with_header : (start before mid after : Option (List ℕ)) → Appends before mid header → IfSome start (λ bytes. length bytes < 2 ^ 64 - 1 → Appends mid after (lines_from [] bytes)) → IfSome start (λ bytes. length bytes < 2 ^ 64 - 1 → Appends before after (listing_of bytes))
unfolding listing_of
with_header None before mid after h p = tt
with_header (Some bytes) before mid after h p = λ few. appends_then before mid after header (lines_from [] bytes) h (p few)
