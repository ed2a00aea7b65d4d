-- The laws on plain numbers and on the machine's signed numbers. They are public: a law that speaks of no planet, angle or byte
-- format stands here, and not in the crate that needs it first.
--     Table        a test that is computed over a whole list, or over all numbers below one, carried to each entry
--     Difference   z is up z - dn z: facts of ℤ become facts of ℕ, which `omega zarith` proves
--     Ring         the ring's laws, `simp ring`, minus signs, sizes, and differences of naturals, `sub_ℕ`
--     Squares      squares and sums of two of them; a turn in a plane
--     Floor        floor division: the only one, multiples go out of it, its rest, its bounds
--     Ranges       "a to b": the record, its test, and what it says of a size
--     Number       `Num x z n`: the machine's x is the number z, and |z| is at most n. One line for each operation
--     Ends         how far a rounded division is off, any floor's and that of `end_turn`
--     Rounding     floor(a / k + 1/2): by the value of a / k alone
--     Cast         what the machine reads back, and its casts between signed and unsigned numbers
--     Arrays       each element of an array of signed numbers fits 64 bits
--     Twos         two's complement: a number's 64 bits, and the number of 64 bits
--     Same         the test whether two numbers are one, and that the machine tells it by their bits
--     Division     the machine's quotient and rest, toward zero, and the floor from them
--     Roots        the two faces of the square root are one
--     Rounds       the rounds of `root`: what holds between two of them, and that there are at most 32
--     Triples      bounds on the parts of a triple
--     Blocks       blocks of one size, one behind the other in a buffer
--     First        the first of numbered things that a test picks out
pub mod Table
pub mod Difference
pub mod Ring
pub mod Squares
pub mod Floor
pub mod Ranges
pub mod Number
pub mod Ends
pub mod Rounding
pub mod Cast
pub mod Arrays
pub mod Twos
pub mod Same
pub mod Division
pub mod Roots
pub mod Rounds
pub mod Triples
pub mod Blocks
pub mod First
