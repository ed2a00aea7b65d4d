-- Sheets by computation on the definitions (02, Item 5), each beside the answer of the exact program (reference/exact.py): a row of Mars and one of the
-- Earth on another day, as they are, off by as much as allowed, off by one unit more, refused, and no rows at all; and each refusal.
use Rattle.std.specs.Prelude.{List, [], ◌∷◌, ◌++◌, map, ◌≡◌, refl, ℕ, ℤ, pos, negsuc, neg_ℤ, replicate, Option, Some, None, Result, Ok, Err}
use Rattle.integers.specs.First.{first_from}
use Rattle.integers.specs.Floor.{end_turn}
use Rattle.integers.specs.Root.{root_from, root_of}
use Rattle.refusals.specs.declared.Refusal.TheVariants.{ShortBuffer, BadCount}
use Rattle.refusals.specs.declared.Refusal.{Refusal}
use Rattle.angles.specs.Unit.{one_turn}
use Rattle.angles.specs.Entry.{factorial, part, whole, term, plus_terms, minus_terms, entry}
use Rattle.angles.specs.Sine.{quarter_sine, half_sine, sine_of, cosine_of}
use Rattle.dates.specs.Minute.{drift_of}
use Rattle.dates.specs.Moment.{tested, moment_at}
use Rattle.tables.specs.Table.{table1, table_row, table_terms, interval_of, moment_after}
use Rattle.layouts.specs.Bytes.{big_endian, big_from}
use Rattle.layouts.specs.Layout.{bytes_of, numbers_in}
use Rattle.frames.specs.Frame.{turned_between}
use Rattle.orbits.specs.Elements.{square_term, periodic_terms}
use Rattle.orbits.specs.Place.{minor_of, plane_x, plane_y, coefficients_of, place_of}
use Rattle.rows.specs.Fields.{good_row, row_bytes, refused_bytes, is_good, is_refused, is_row, are_row}
use Rattle.rows.specs.Answer.{read_of}
use Rattle.marking.specs.Wrong.{is_wrong}
use Rattle.marking.specs.Mark.{is_markable, mark_answer}
use Rattle.kepler.specs.Equation.{F, error_of}
use Rattle.kepler.specs.Eccentric.{reaches, halved, last_below, nearer_of, eccentric}

-- Mars on minute 23 with this x, and the Earth a day before JD 2451545.0 with this z; in HAE they are 13,906,769 and -3
abbrev pub mars : ℤ → List ℕ
mars x = row_bytes (good_row (pos 4) (pos 1) (pos 23) x (neg_ℤ (pos 131483)) (neg_ℤ (pos 344564)))

abbrev pub earth : ℤ → List ℕ
earth z = row_bytes (good_row (pos 3) (pos 1) (neg_ℤ (pos 1440)) (neg_ℤ (pos 1599412)) (pos 9702275) z)

-- a sheet, a count, an allowance, and the answer
abbrev pub handed_in : List (List ℕ × ℤ × ℤ × Result (Option ℕ) Refusal)
handed_in =
    -- our own rows
    (mars (pos 13906769) ++ earth (negsuc 2), pos 2, pos 0, Ok None)
    -- off by the allowance, and by one unit more, to either side
    ∷ (mars (pos 13906772) ++ earth (negsuc 5), pos 2, pos 3, Ok None)
    ∷ (mars (pos 13906772) ++ earth (negsuc 6), pos 2, pos 3, Ok (Some 2))
    ∷ (mars (pos 13906773) ++ earth (negsuc 6), pos 2, pos 3, Ok (Some 1))
    -- a row that is not counted
    ∷ (mars (pos 13906769) ++ earth (negsuc 6), pos 1, pos 0, Ok None)
    -- the least and the greatest number of 64 bits, at the largest allowance
    ∷ (mars (negsuc 0x7fff_ffff_ffff_ffff), pos 1, pos 1000000, Ok (Some 1))
    ∷ (mars (pos 0x7fff_ffff_ffff_ffff), pos 1, pos 1000000, Ok (Some 1))
    -- a refused row, and bytes that are no row
    ∷ (mars (pos 13906769) ++ refused_bytes (pos 3), pos 2, pos 1000000, Ok (Some 2))
    ∷ (mars (pos 13906769) ++ replicate 38 0, pos 2, pos 1000000, Ok (Some 2))
    -- an empty sheet
    ∷ ([], pos 0, pos 1000000, Ok None)
    -- 10 for a count or an allowance outside its range, also where 8 would do; then 8
    ∷ ([], pos 401, pos 0, Err BadCount)
    ∷ ([], negsuc 0, pos 0, Err BadCount)
    ∷ ([], pos 1, pos 1000001, Err BadCount)
    ∷ ([], pos 1, negsuc 0, Err BadCount)
    ∷ ([], pos 1, pos 0, Err ShortBuffer)
    ∷ (replicate 75 0, pos 2, pos 0, Err ShortBuffer)
    ∷ []

abbrev pub marked : List ℕ × ℤ × ℤ × Result (Option ℕ) Refusal → Result (Option ℕ) Refusal
marked e = mark_answer e.0 e.1 e.2

pub marked_so : map marked handed_in ≡ map (λ (e : List ℕ × ℤ × ℤ × Result (Option ℕ) Refusal). e.3) handed_in
unfolding mark_answer is_markable is_wrong first_from read_of are_row is_row is_good is_refused row_bytes refused_bytes numbers_in bytes_of big_from big_endian moment_after moment_at tested table_row table_terms interval_of square_term periodic_terms table1 drift_of one_turn sine_of cosine_of half_sine quarter_sine entry plus_terms minus_terms term whole part factorial eccentric nearer_of last_below halved reaches error_of F end_turn root_of root_from minor_of plane_x plane_y coefficients_of place_of turned_between
marked_so = refl
