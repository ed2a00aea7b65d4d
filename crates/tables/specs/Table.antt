-- Document 002's tables, exact in hundred-millionths (01, "Counts used"; 02, Item 1): a, e, I, L, the longitude of perihelion and the
-- node at minute 0, then their rates a century. Bodies 1 to 9 are a table's rows in order; body 3 is the Earth-Moon barycentre.
use Rattle.std.specs.Prelude.{Bool, true, false, List, [], ◌∷◌, ℕ, ◌-◌, ℤ, pos, negsuc, neg_ℤ, nat_abs, get_or, Err, None, Option, Result, Some}
use Rattle.integers.specs.Range.{FromTo, is_from_to}
use Rattle.integers.specs.Sign.{same}
use Rattle.refusals.specs.declared.Refusal.TheVariants.{NotFinite, NoSuchTable}
use Rattle.dates.specs.declared.Date.{Date}
use Rattle.dates.specs.declared.Interval.{Interval}
use Rattle.dates.specs.Minute.{minute_of}
use Rattle.dates.specs.Moment.{Covers, moment_at}
use Rattle.refusals.specs.declared.Refusal.{Refusal}

abbrev pub neg : ℕ → ℤ
neg n = neg_ℤ (pos n)

-- 01, "From date to place": 002's Table 1
unfoldable pub table1 : List (List ℤ)
table1 =
    -- Mercury
    (pos 38709927 ∷ pos 20563593 ∷ pos 700497902 ∷ pos 25225032350 ∷ pos 7745779628 ∷ pos 4833076593
    ∷ pos 37 ∷ pos 1906 ∷ neg 594749 ∷ pos 14947267411175 ∷ pos 16047689 ∷ neg 12534081 ∷ [])
    -- Venus
    ∷ (pos 72333566 ∷ pos 677672 ∷ pos 339467605 ∷ pos 18197909950 ∷ pos 13160246718 ∷ pos 7667984255
    ∷ pos 390 ∷ neg 4107 ∷ neg 78890 ∷ pos 5851781538729 ∷ pos 268329 ∷ neg 27769418 ∷ [])
    -- EM Bary
    ∷ (pos 100000261 ∷ pos 1671123 ∷ neg 1531 ∷ pos 10046457166 ∷ pos 10293768193 ∷ pos 0
    ∷ pos 562 ∷ neg 4392 ∷ neg 1294668 ∷ pos 3599937244981 ∷ pos 32327364 ∷ pos 0 ∷ [])
    -- Mars
    ∷ (pos 152371034 ∷ pos 9339410 ∷ pos 184969142 ∷ neg 455343205 ∷ neg 2394362959 ∷ pos 4955953891
    ∷ pos 1847 ∷ pos 7882 ∷ neg 813131 ∷ pos 1914030268499 ∷ pos 44441088 ∷ neg 29257343 ∷ [])
    -- Jupiter
    ∷ (pos 520288700 ∷ pos 4838624 ∷ pos 130439695 ∷ pos 3439644051 ∷ pos 1472847983 ∷ pos 10047390909
    ∷ neg 11607 ∷ neg 13253 ∷ neg 183714 ∷ pos 303474612775 ∷ pos 21252668 ∷ pos 20469106 ∷ [])
    -- Saturn
    ∷ (pos 953667594 ∷ pos 5386179 ∷ pos 248599187 ∷ pos 4995424423 ∷ pos 9259887831 ∷ pos 11366242448
    ∷ neg 125060 ∷ neg 50991 ∷ pos 193609 ∷ pos 122249362201 ∷ neg 41897216 ∷ neg 28867794 ∷ [])
    -- Uranus
    ∷ (pos 1918916464 ∷ pos 4725744 ∷ pos 77263783 ∷ pos 31323810451 ∷ pos 17095427630 ∷ pos 7401692503
    ∷ neg 196176 ∷ neg 4397 ∷ neg 242939 ∷ pos 42848202785 ∷ pos 40805281 ∷ pos 4240589 ∷ [])
    -- Neptune
    ∷ (pos 3006992276 ∷ pos 859048 ∷ pos 177004347 ∷ neg 5512002969 ∷ pos 4496476227 ∷ pos 13178422574
    ∷ pos 26291 ∷ pos 5105 ∷ pos 35372 ∷ pos 21845945325 ∷ neg 32241464 ∷ neg 508664 ∷ [])
    -- Pluto
    ∷ (pos 3948211675 ∷ pos 24882730 ∷ pos 1714001206 ∷ pos 23892903833 ∷ pos 22406891629 ∷ pos 11030393684
    ∷ neg 31596 ∷ pos 5170 ∷ pos 4818 ∷ pos 14520780515 ∷ neg 4062942 ∷ neg 1183482 ∷ [])
    ∷ []

-- 02, Item 1: 002's Table 2a
unfoldable pub table2 : List (List ℤ)
table2 =
    -- Mercury
    (pos 38709843 ∷ pos 20563661 ∷ pos 700559432 ∷ pos 25225166724 ∷ pos 7745771895 ∷ pos 4833961819
    ∷ pos 0 ∷ pos 2123 ∷ neg 590158 ∷ pos 14947267486623 ∷ pos 15940013 ∷ neg 12214182 ∷ [])
    -- Venus
    ∷ (pos 72332102 ∷ pos 676399 ∷ pos 339777545 ∷ pos 18197970850 ∷ pos 13176755713 ∷ pos 7667261496
    ∷ neg 26 ∷ neg 5107 ∷ pos 43494 ∷ pos 5851781560260 ∷ pos 5679648 ∷ neg 27274174 ∷ [])
    -- EM Bary
    ∷ (pos 100000018 ∷ pos 1673163 ∷ neg 54346 ∷ pos 10046691572 ∷ pos 10293005885 ∷ neg 511260389
    ∷ neg 3 ∷ neg 3661 ∷ neg 1337178 ∷ pos 3599937306329 ∷ pos 31795260 ∷ neg 24123856 ∷ [])
    -- Mars
    ∷ (pos 152371243 ∷ pos 9336511 ∷ pos 185181869 ∷ neg 456813164 ∷ neg 2391744784 ∷ pos 4971320984
    ∷ pos 97 ∷ pos 9149 ∷ neg 724757 ∷ pos 1914029934243 ∷ pos 45223625 ∷ neg 26852431 ∷ [])
    -- Jupiter
    ∷ (pos 520248019 ∷ pos 4853590 ∷ pos 129861416 ∷ pos 3433479152 ∷ pos 1427495244 ∷ pos 10029282654
    ∷ neg 2864 ∷ pos 18026 ∷ neg 322699 ∷ pos 303490371757 ∷ pos 18199196 ∷ pos 13024619 ∷ [])
    -- Saturn
    ∷ (pos 954149883 ∷ pos 5550825 ∷ pos 249424102 ∷ pos 5007571329 ∷ pos 9286136063 ∷ pos 11363998702
    ∷ neg 3065 ∷ neg 32044 ∷ pos 451969 ∷ pos 122211494724 ∷ pos 54179478 ∷ neg 25015002 ∷ [])
    -- Uranus
    ∷ (pos 1918797948 ∷ pos 4685740 ∷ pos 77298127 ∷ pos 31420276625 ∷ pos 17243404441 ∷ pos 7396250215
    ∷ neg 20455 ∷ neg 1550 ∷ neg 180155 ∷ pos 42849512595 ∷ pos 9266985 ∷ pos 5739699 ∷ [])
    -- Neptune
    ∷ (pos 3006952752 ∷ pos 895439 ∷ pos 177005520 ∷ pos 30422289287 ∷ pos 4668158724 ∷ pos 13178635853
    ∷ pos 6447 ∷ pos 818 ∷ pos 22400 ∷ pos 21846515314 ∷ pos 1009938 ∷ neg 606302 ∷ [])
    -- Pluto
    ∷ (pos 3948686035 ∷ pos 24885238 ∷ pos 1714104260 ∷ pos 23896535011 ∷ pos 22409702598 ∷ pos 11030167986
    ∷ pos 449751 ∷ pos 6016 ∷ pos 501 ∷ pos 14518042903 ∷ neg 968827 ∷ neg 809981 ∷ [])
    ∷ []

-- 02, Item 1: 002's Table 2b, b, c, s and f, of which the "extra terms b·T², c·cos(fT) and s·sin(fT) in M" are made; four zeros where it has no line
unfoldable pub terms2 : List (List ℤ)
terms2 =
    -- Mercury
    (pos 0 ∷ pos 0 ∷ pos 0 ∷ pos 0 ∷ [])
    -- Venus
    ∷ (pos 0 ∷ pos 0 ∷ pos 0 ∷ pos 0 ∷ [])
    -- EM Bary
    ∷ (pos 0 ∷ pos 0 ∷ pos 0 ∷ pos 0 ∷ [])
    -- Mars
    ∷ (pos 0 ∷ pos 0 ∷ pos 0 ∷ pos 0 ∷ [])
    -- Jupiter
    ∷ (neg 12452 ∷ pos 6064060 ∷ neg 35635438 ∷ pos 3835125000 ∷ [])
    -- Saturn
    ∷ (pos 25899 ∷ neg 13434469 ∷ pos 87320147 ∷ pos 3835125000 ∷ [])
    -- Uranus
    ∷ (pos 58331 ∷ neg 97731848 ∷ pos 17689245 ∷ pos 767025000 ∷ [])
    -- Neptune
    ∷ (neg 41348 ∷ pos 68346318 ∷ neg 10162547 ∷ pos 767025000 ∷ [])
    -- Pluto
    ∷ (neg 1262724 ∷ pos 0 ∷ pos 0 ∷ pos 0 ∷ [])
    ∷ []

-- 02, Item 1: "A call names table 1 or table 2", and refusal 11's test of one
abbrev pub KnownTable : ℤ → Type 0
KnownTable table = FromTo (pos 1) (pos 2) table

abbrev pub is_table : ℤ → Bool
is_table table = is_from_to (pos 1) (pos 2) table

-- 02, Item 1: "a call that names none gets table 1"
abbrev pub default_table : ℤ
default_table = pos 1

-- "bodies 1 to 9", and refusal 3's test of one
abbrev pub Body : ℤ → Type 0
Body body = FromTo (pos 1) (pos 9) body

abbrev pub is_body : ℤ → Bool
is_body body = is_from_to (pos 1) (pos 9) body

-- a body's row in a table
abbrev pub row_in : List (List ℤ) → (body : ℤ) → List ℤ
row_in rows body = get_or rows (nat_abs body - 1) []

abbrev pub rows_if : (first : Bool) → List (List ℤ)
rows_if true = table1
rows_if false = table2

unfoldable pub table_row : (table body : ℤ) → List ℤ
table_row table body = row_in (rows_if (same table (pos 1))) body

-- its b, c, s and f, which are zeros in all of Table 1
abbrev pub no_terms : List ℤ
no_terms = pos 0 ∷ pos 0 ∷ pos 0 ∷ pos 0 ∷ []

abbrev pub terms_if : (first : Bool) → List (List ℤ)
terms_if true = []
terms_if false = terms2

unfoldable pub table_terms : (table body : ℤ) → List ℤ
table_terms table body = get_or (terms_if (same table (pos 1))) (nat_abs body - 1) no_terms

-- "First date -105,189,840 (JD 2378496.5), last 26,298,000 (JD 2469807.5), both accepted"
abbrev pub interval1 : Interval
interval1 = record { first = negsuc 105189839; last = pos 26298000 }

-- 02, Item 1: "Its interval is JD 625673.5 to JD 2816787.5, both ends accepted": minutes -2,629,254,960 to 525,949,200
abbrev pub interval2 : Interval
interval2 = record { first = negsuc 2629254959; last = pos 525949200 }

abbrev pub interval_if : (first : Bool) → Interval
interval_if true = interval1
interval_if false = interval2

unfoldable pub interval_of : (table : ℤ) → Interval
interval_of table = interval_if (same table (pos 1))

-- a table that there is, and a minute of its interval
pub record OnTable (table minute : ℤ) : Type 0 where
  pub known : KnownTable table
  pub covered : Covers (interval_of table) minute

-- 02, Item 1: "11, no such table, after 1 and before 2"; "2 now speaks of the named table's interval"
abbrev pub moment_if : (is_table : Bool) → Interval → Option ℤ → ℤ → Result ℤ Refusal
moment_if true interval minute offset = moment_at interval minute offset
moment_if false interval None offset = Err NotFinite
moment_if false interval (Some m) offset = Err NoSuchTable

-- a date and an offset in minutes, tested against the interval of a table
unfoldable pub moment_after : Date → (table : ℤ) → (offset : ℤ) → Result ℤ Refusal
moment_after date table offset = moment_if (is_table table) (interval_of table) (minute_of date) offset
