-- Runs of bytes: a part of a list by its bounds, and the place of the first byte of a value.
use Rattle.std.specs.Prelude.{ℕ, suc, ◌-◌, List, [], ◌∷◌, Bool, cond, eqb, take, drop}

-- the part from one place up to another
abbrev pub slice : (from to : ℕ) → List ℕ → List ℕ
slice from to xs = take (to - from) (drop from xs)

-- here, or one further than in what is left
unfoldable pub index_after : Bool → ℕ → ℕ
index_after t n = cond t 0 (suc n)

-- the place of the first b, or the length where there is none
unfoldable pub index_of : ℕ → List ℕ → ℕ
index_of b [] = 0
index_of b (x ∷ xs) = index_after (eqb x b) (index_of b xs)
