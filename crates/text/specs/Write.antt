-- What it means that a function writes a text into a lent buffer.
use Rattle.std.specs.Prelude.{ℕ, ◌+◌, ◌≡◌, List, length}
use Rattle.record.specs.Parts.{splice}

-- the buffer c is b with the text at a place, and r is the place behind it
pub record Wrote (text : List ℕ) (at : ℕ) (b : List ℕ) (r : ℕ) (c : List ℕ) : Type 0 where
  pub is : c ≡ splice at text b
  pub behind : r ≡ at + length text
