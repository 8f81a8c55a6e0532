-- A list of bytes cut into parts of one width, parts put together again, and a test of all parts.
use Rattle.std.specs.Prelude.{ℕ, zero, suc, List, [], ◌∷◌, ◌++◌, Bool, true, ◌&&◌, take, drop}

-- the w bytes of b that start at a place
abbrev pub part : ℕ → ℕ → List ℕ → List ℕ
part at w b = take w (drop at b)

-- the first n parts of b, each w bytes
unfoldable pub parts : ℕ → ℕ → List ℕ → List (List ℕ)
parts w zero b = []
parts w (suc n) b = take w b ∷ parts w n (drop w b)

unfoldable pub join : List (List ℕ) → List ℕ
join [] = []
join (p ∷ ps) = p ++ join ps

-- each element passes the test
unfoldable pub all : {A : Type 0} → (A → Bool) → List A → Bool
all p [] = true
all p (x ∷ xs) = p x && all p xs
