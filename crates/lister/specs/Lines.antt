-- The lines of an input: each ends at a newline, the last one with or without it.
use Rattle.std.specs.Prelude.{ℕ, List, [], ◌∷◌, cond, eqb}
use Rattle.text.specs.Words.{newline}

-- a byte in front of the first line; the only one, where there is none
abbrev pub onto : ℕ → List (List ℕ) → List (List ℕ)
onto x [] = (x ∷ []) ∷ []
onto x (line ∷ lines) = (x ∷ line) ∷ lines

unfoldable pub lines_of : List ℕ → List (List ℕ)
lines_of [] = []
lines_of (x ∷ xs) = let rest = lines_of xs in cond (eqb x newline) ([] ∷ rest) (onto x rest)
