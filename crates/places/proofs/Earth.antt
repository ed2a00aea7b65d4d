-- On every accepted date the Earth is where `frames` asks it to be: no length that HEE or HEEQ divides by is 0, no turn overflows, and a turned
-- vector is hardly longer than it was. `orbits` shows where the Earth is, and `frames` what follows from it.
use mathlib.Core.Bool.{Bool, true, false, ◌||◌}
use mathlib.Core.List.{List}
use mathlib.Core.Path.{◌≡◌, refl}
use Prim.Native.Nat.{◌≤◌}
use native.Mathlib.Omega.{arith}
use lib.Dec.{T}
use lib.IntN.{ℤ, pos}
use Rattle.integers.specs.Range.{Within}
use Rattle.integers.specs.Triple.{PartsWithin}
use Rattle.integers.proofs.Difference.{zarith}
use Rattle.integers.proofs.Table.{or_left, or_right}
use Rattle.integers.proofs.Triples.{three}
use Rattle.dates.specs.declared.Date.{Date}
use Rattle.tables.specs.Table.{Body, OnTable, moment_after}
use Rattle.tables.proofs.Laws.{after_inside}
use Rattle.orbits.proofs.Rows.{table_place_within}
use Rattle.orbits.proofs.Earth.{earth_clear}
use Rattle.vectors.specs.Vector.{length_of}
use Rattle.vectors.specs.Range.{NoLonger}
use Rattle.frames.specs.Range.{NearEcliptic, EarthFits}
use Rattle.frames.specs.Frame.{KnownFrame, needs_earth, on_ecliptic, axis_cross, turned_between}
use Rattle.frames.proofs.Choice.{earth_free}
use Rattle.frames.proofs.Earth.{earth_long, ecliptic_long, across_long}
use Rattle.frames.proofs.Frames.{between_long}
use Rattle.places.specs.Answer.{hae_at, earth_at}
use Rattle.places.specs.Earth.{earth_if}
use Rattle.std.specs.Prelude.{Ok}

pub hae_frame : KnownFrame (pos 1)
hae_frame = record { low = omega zarith; high = omega zarith }

pub earth_body : Body (pos 3)
earth_body = record { low = omega zarith; high = omega zarith }

-- ---- on a minute of a table's interval
module _ (table m : ℤ) (h : OnTable table m) where
  earth_within : PartsWithin 1000000000 (earth_at table m)
  earth_within = table_place_within table (pos 3) m earth_body h

  pub earth_near_ecliptic : NearEcliptic (earth_at table m)
  earth_near_ecliptic = let c = earth_clear table m h.covered in record { away = c.away; low = c.low }

  earth_fits : (f : ℤ) → EarthFits f (earth_at table m)
  earth_fits f = record { parts = earth_within; near = λ t. earth_near_ecliptic }

  -- where neither of two frames goes by the Earth's place, zeros stand in for it, and make no difference
  if_within : (b : Bool) → PartsWithin 1000000000 (earth_if b table m)
  if_within true = earth_within
  if_within false = let z : Within 1000000000 (pos 0) = record { within = omega arith } in three z z z

  if_near : (b : Bool) → T b → NearEcliptic (earth_if b table m)
  if_near true t = earth_near_ecliptic
  if_near false t = absurd t

  pub earth_if_fits : (f g : ℤ) → EarthFits f (earth_if (needs_earth f || needs_earth g) table m) × EarthFits g (earth_if (needs_earth f || needs_earth g) table m)
  earth_if_fits f g = (
    record { parts = if_within (needs_earth f || needs_earth g); near = λ t. if_near (needs_earth f || needs_earth g) (or_left (needs_earth f) (needs_earth g) t) },
    record { parts = if_within (needs_earth f || needs_earth g); near = λ t. if_near (needs_earth f || needs_earth g) (or_right (needs_earth f) (needs_earth g) t) },
  )

  pub earth_enough : (f g : ℤ) (v : List ℤ) → KnownFrame f → KnownFrame g → turned_between f g (earth_if (needs_earth f || needs_earth g) table m) v ≡ turned_between f g (earth_at table m) v
  earth_enough f g v hf hg = go (needs_earth f) (needs_earth g) refl refl
    where
      go : (a b : Bool) → needs_earth f ≡ a → needs_earth g ≡ b → turned_between f g (earth_if (a || b) table m) v ≡ turned_between f g (earth_at table m) v
      go true b p q = refl
      go false true p q = refl
      go false false p q = earth_free f g hf hg p q (earth_if false table m) (earth_at table m) v

  -- ---- lengths of turned vectors, in counts of 10^-7 au
  -- a place of HAE, of parts up to 10^9, turned from HAE
  pub place_long : (body frame : ℤ) → Body body → KnownFrame frame → NoLonger 1732054000 (turned_between (pos 1) frame (earth_at table m) (hae_at table body m))
  place_long body frame b f =
      between_long (earth_at table m) (pos 1) frame 1000000000 1732050808 1732051998000000000 1732052000 1732053998000000000 1732054000 (hae_at table body m) hae_frame f (earth_fits (pos 1)) (earth_fits frame)
      (table_place_within table body m b h) tt tt tt tt tt tt tt

  -- a given vector, of parts up to 500,000,000, turned between any two frames
  pub turned_vector_long : (f g : ℤ) (v : List ℤ) → KnownFrame f → KnownFrame g → PartsWithin 500000000 v → NoLonger 866026274 (turned_between f g (earth_at table m) v)
  turned_vector_long f g v hf hg p =
      between_long (earth_at table m) f g 500000000 866025404 866025837012593747 866025839 866026272012811247 866026274 v hf hg (earth_fits f) (earth_fits g) p tt tt tt tt tt tt tt

-- ---- no length is 0: on every accepted date, by either table, HEE divides by the first, HEEQ by the second and the third
pub lengths_not_0 : (date : Date) (table offset m : ℤ) → moment_after date table offset ≡ Ok m → (9300000 ≤ length_of (on_ecliptic (earth_at table m))) × ((9300000 ≤ length_of (earth_at table m)) × (690000000 ≤ length_of (axis_cross (earth_at table m))))
lengths_not_0 date table offset m e =
    let h = after_inside date table offset m e in
    let p = earth_within table m h in
    let n = earth_near_ecliptic table m h in
    (ecliptic_long (earth_at table m) p n, (earth_long (earth_at table m) p n, across_long (earth_at table m) p n))
