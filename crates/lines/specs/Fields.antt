-- The fields of a line: numbers and bytes in digits, and what is wrong where they are not read.
-- Assumes nothing.
use Rattle.std.specs.Prelude.{List, Result, Ok, Err, ℕ, ◌%◌, ◌/◌, ◌==◌, nat_le, length, if◌then◌else◌}
use Rattle.octets.specs.Bytes.{between}
use Rattle.lines.specs.Digits.{are_digits, numeral}
use Rattle.lines.specs.declared.fields.Fault.{Fault}
use Rattle.lines.specs.declared.fields.Fault.TheVariants as TheFault

-- what follows of what was read; where it was not, why
infixl 10 ◌>>=◌
abbrev pub ◌>>=◌ : {A B : Type 0} → Result A Fault → (A → Result B Fault) → Result B Fault
Ok v >>= k = k v
Err f >>= k = Err f

-- a number of n hex digits
unfoldable pub hex_field : List ℕ → ℕ → Result ℕ Fault
hex_field w n =
    if are_digits 16 w then (if length w == n then Ok (numeral 16 0 w) else Err TheFault.OtherLength) else Err TheFault.NotHex

-- a decimal number of at most 16 digits in a range
unfoldable pub decimal_field : List ℕ → ℕ → ℕ → Result ℕ Fault
decimal_field w least most =
    if are_digits 10 w then
    (if nat_le (length w) 16 then (if between least most (numeral 10 0 w) then Ok (numeral 10 0 w) else Err TheFault.OutOfRange) else Err TheFault.OutOfRange)
    else Err TheFault.NotDecimal

-- bytes, two hex digits for each: how many
unfoldable pub bytes_field : List ℕ → Result ℕ Fault
bytes_field w = if are_digits 16 w then (if length w % 2 == 0 then Ok (length w / 2) else Err TheFault.OddDigits) else Err TheFault.NotHex
