-- Numbers as text (01, the lister): lower-case hexadecimal digits of a given width, read and printed, and decimal,
-- printed.
use Rattle.std.specs.Prelude.{ℕ, zero, suc, ◌+◌, ◌-◌, ◌*◌, ◌/◌, ◌%◌, List, [], ◌∷◌, ◌++◌, Bool, true, ◌&&◌, cond, ltb, leb, get_or}

-- the character of a digit: 0 to 9, then a to f
abbrev pub char_of : ℕ → ℕ
char_of d = cond (ltb d 10) (48 + d) (87 + d)

-- the digit of a character; 16 where it is none
unfoldable pub digit_of : ℕ → ℕ
digit_of b =
    cond (leb 48 b && leb b 57)
    (b - 48)
    (cond (leb 97 b && leb b 102) (b - 87) 16)

abbrev pub digit_at : ℕ → List ℕ → ℕ
digit_at i b = digit_of (get_or b i 0)

-- the n characters from a place on are digits
abbrev pub are_digits : ℕ → ℕ → List ℕ → Bool
are_digits at zero b = true
are_digits at (suc n) b = ltb (digit_at at b) 16 && are_digits (suc at) n b

-- the number that they write, v being what stands before them
abbrev pub number_after : ℕ → ℕ → ℕ → List ℕ → ℕ
number_after v at zero b = v
number_after v at (suc n) b = number_after (16 * v + digit_at at b) (suc at) n b

abbrev pub number_at : ℕ → ℕ → List ℕ → ℕ
number_at at n b = number_after 0 at n b

-- the last n hexadecimal digits of a number
abbrev pub hex : ℕ → ℕ → List ℕ
hex zero v = []
hex (suc n) v = hex n (v / 16) ++ (char_of (v % 16) ∷ [])

-- a number in decimal, its digits k at most
unfoldable pub decimal_by : ℕ → ℕ → List ℕ
decimal_by zero v = []
decimal_by (suc k) v = cond (ltb v 10) ((48 + v) ∷ []) (decimal_by k (v / 10) ++ ((48 + v % 10) ∷ []))

-- no number has more digits than its successor says
unfoldable pub decimal : ℕ → List ℕ
decimal v = decimal_by (suc v) v
