-- Numbers as a script has them: read from digits, and written in digits.
-- Assumes nothing.
use Rattle.std.specs.Prelude.{Bool, true, cond, ◌&&◌, List, [], ◌∷◌, ◌++◌, ℕ, zero, suc, ◌+◌, ◌-◌, ◌*◌, ◌/◌, ◌%◌, Option, None, Some, leb, ltb, length}
use Rattle.cost.specs.Cost.{within}

-- the byte of a digit
abbrev pub digit : ℕ → ℕ
digit n = 48 + n

abbrev pub is_digit : ℕ → Bool
is_digit byte = within (digit 0) (digit 9) byte

unfoldable pub all_digits : List ℕ → Bool
all_digits [] = true
all_digits (byte ∷ bytes) = is_digit byte && all_digits bytes

-- the value of digits that stand behind others of value `value`; leading zeros are digits like others
unfoldable pub value_from : ℕ → List ℕ → ℕ
value_from value [] = value
value_from value (byte ∷ bytes) = value_from (value * 10 + (byte - digit 0)) bytes

-- "numbers have 1 to 10 decimal digits and are at most 4,294,967,295"
unfoldable pub number_of : List ℕ → Option ℕ
number_of field =
    cond (within 1 10 (length field))
    (cond (all_digits field)
    (cond (leb (value_from 0 field) 4294967295) (Some (value_from 0 field)) None)
    None)
    None

-- the digits of n, the last digits of it behind at most `more` others
unfoldable pub digits_of : ℕ → ℕ → List ℕ
digits_of zero n = digit n ∷ []
digits_of (suc more) n = cond (ltb n 10) (digit n ∷ []) (digits_of more (n / 10) ++ digit (n % 10) ∷ [])

-- a number in decimal digits, with no leading zeros; 0 is one zero (n has no more than n + 1 digits)
unfoldable pub decimal : ℕ → List ℕ
decimal n = digits_of n n
