-- `elements_at` is step 1 for each of a row's six elements.
-- By what the six calls ensure, of the minute read back.
use native.Mathlib.Omega.{arith}
use mathlib.Core.Path.{◌≡◌, ap, subst, sym, ◌∙◌}
use Prim.Native.Nat.{ℕ}
use lib.IntN.{ℤ}
use Rattle.integers.proofs.Cast.{read}
use Rattle.integers.proofs.Number.{known}
use Rattle.angles.specs.Unit.{element_of}
use Rattle.orbits.specs.Elements.{element_in}
use Rattle.orbits.specs.Range.{RowFits}
use Rattle.orbits.specs.declared.Elements.{Elements}
use Rattle.orbits.proofs.elements_at.Goals as goal
use Rattle.orbits.proofs.elements_at.Goals.{Start}

-- the row and the minute as the callee has them
ready : (s : Start) → RowFits s.args.row (read s.args.minute)
ready s = subst (RowFits s.args.row) (sym (known s.requires.minute tt).is) s.requires

in_row : (s : Start) (k : ℕ) → element_in s.args.row k (read s.args.minute) ≡ element_in s.args.row k s.args.minute
in_row s k = ap (element_in s.args.row k) (known s.requires.minute tt).is

abbrev six : ℤ → ℤ → ℤ → ℤ → ℤ → ℤ → Elements
six a e i l p n = record { a = element_of a; e = element_of e; inclination = element_of i; longitude = element_of l; perihelion = element_of p; node = element_of n }

pub returns : goal.returns
returns c =
    let c5 = c.before in
    let c4 = c5.before in
    let c3 = c4.before in
    let c2 = c3.before in
    let c1 = c2.before in
    let s = c1.before in
    λ i.
    six ((c1.element_in.ensures ∙ in_row s 0) i) ((c2.element_in-2.ensures ∙ in_row s 1) i) ((c3.element_in-3.ensures ∙ in_row s 2) i)
    ((c4.element_in-4.ensures ∙ in_row s 3) i) ((c5.element_in-5.ensures ∙ in_row s 4) i) ((c.element_in-6.ensures ∙ in_row s 5) i)

pub element_in-requires : goal.element_in-requires
element_in-requires c = record { row_fits = ready c; k_bound = omega arith }

pub element_in-requires-2 : goal.element_in-requires-2
element_in-requires-2 c = record { row_fits = ready c.before; k_bound = omega arith }

pub element_in-requires-3 : goal.element_in-requires-3
element_in-requires-3 c = record { row_fits = ready c.before.before; k_bound = omega arith }

pub element_in-requires-4 : goal.element_in-requires-4
element_in-requires-4 c = record { row_fits = ready c.before.before.before; k_bound = omega arith }

pub element_in-requires-5 : goal.element_in-requires-5
element_in-requires-5 c = record { row_fits = ready c.before.before.before.before; k_bound = omega arith }

pub element_in-requires-6 : goal.element_in-requires-6
element_in-requires-6 c = record { row_fits = ready c.before.before.before.before.before; k_bound = omega arith }
