-- The fixed words and signs of the lister's text (01, the lister), as bytes.
use Rattle.std.specs.Prelude.{ℕ, List, [], ◌∷◌, Bool, true, false, ◌&&◌, eqb}

abbrev pub newline : ℕ
newline = 10

abbrev pub space : ℕ
space = 32

-- "loop", with which line 1 begins
abbrev pub loop_word : List ℕ
loop_word = 108 ∷ 111 ∷ 111 ∷ 112 ∷ []

-- "hand", "bad" and "long", with which lines of output begin
abbrev pub hand_word : List ℕ
hand_word = 104 ∷ 97 ∷ 110 ∷ 100 ∷ []

abbrev pub bad_word : List ℕ
bad_word = 98 ∷ 97 ∷ 100 ∷ []

abbrev pub long_word : List ℕ
long_word = 108 ∷ 111 ∷ 110 ∷ 103 ∷ []

-- a line begins with a word
unfoldable pub begins : List ℕ → List ℕ → Bool
begins [] line = true
begins (w ∷ ws) [] = false
begins (w ∷ ws) (x ∷ xs) = eqb x w && begins ws xs
