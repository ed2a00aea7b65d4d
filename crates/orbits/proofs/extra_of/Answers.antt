-- `extra_of` is the sum of the further terms of M.
-- By what the two callees ensure; each of the four numbers is in range.
use mathlib.Core.Path.{◌∙◌}
use Rattle.integers.specs.Triple.{at}
use Rattle.integers.proofs.Cast.{read}
use Rattle.integers.proofs.Number.{Num, known, got, w_read, add, add_fits}
use Rattle.orbits.specs.Elements.{square_term, periodic_terms}
use Rattle.orbits.proofs.Terms.{square_small, periodic_small}
use Rattle.orbits.proofs.extra_of.Goals as goal
use Rattle.orbits.proofs.extra_of.Goals.{After-periodic_terms-periodic, After-square_term-square, Start}

abbrev start : After-square_term-square → Start
start c = c.before.before

square : (c : After-square_term-square) → Num (read c.square_term-square.result) (square_term (at (start c).args.terms 0) (start c).args.minute) 14000000000000
square c =
    let h = (start c).requires in
    got c.square_term-square.type_inv (c.square_term-square.ensures ∙ (λ i. square_term ((known (h.each 0) tt).is i) ((known h.minute tt).is i))) (square_small h)

abbrev from : After-periodic_terms-periodic → After-square_term-square
from c = c.before.before.before.before

periodic : (c : After-periodic_terms-periodic) → Num (read c.periodic_terms-periodic.result) (periodic_terms (at (start (from c)).args.terms 1) (at (start (from c)).args.terms 2) (at (start (from c)).args.terms 3) (start (from c)).args.minute) 10000000000
periodic c =
    let h = (start (from c)).requires in
    got c.periodic_terms-periodic.type_inv
    (c.periodic_terms-periodic.ensures ∙ (λ i. periodic_terms ((known (h.each 1) tt).is i) ((known (h.each 2) tt).is i) ((known (h.each 3) tt).is i) ((known h.minute tt).is i)))
    (periodic_small h)

pub square_term-square-requires : goal.square_term-square-requires
square_term-square-requires c = let h = c.before.requires in (w_read (h.each 0) tt, w_read h.minute tt)

pub periodic_terms-periodic-requires : goal.periodic_terms-periodic-requires
periodic_terms-periodic-requires c =
    let s = c.before.before.before.before.before in
    let h = s.requires in
    record { within = (w_read (h.each 1) tt, w_read (h.each 2) tt); within_2 = (w_read (h.each 3) tt, w_read h.minute tt) }

pub overflow_add-square : goal.overflow_add-square
overflow_add-square c = add_fits (square (from c)) (periodic c) tt

pub returns : goal.returns
returns c = let p = c.before in c.of_hundred_millionths.ensures ∙ (add (square (from p)) (periodic p) tt).is
