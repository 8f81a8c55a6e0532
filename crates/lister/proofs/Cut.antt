-- An input cut at its first newline: the first line is what stands before it, and the other lines are those behind it.
use Prim.Native.Nat.{ℕ, suc, ◌≤◌, ◌<◌, zero-le, suc-le-suc}
use mathlib.Core.Path.{◌≡◌, refl}
use mathlib.Core.List.{List, [], ◌∷◌}
use mathlib.Core.Bool.{Bool, true, false, cond}
use native.Mathlib.Nat.{not-suc-le-zero}
use lib.Dec.{eqb}
use lib.ListN.{length, take, drop}
use Rattle.byte_runs.specs.Bytes.{index_of, index_after}
use Rattle.text.specs.Words.{newline}
use Rattle.lister.specs.Lines.{onto, lines_of}

pub index_within : (b : ℕ) (s : List ℕ) → index_of b s ≤ length s
unfolding index_of index_after
index_within b [] = zero-le
index_within b (x ∷ xs) = go (index_within b xs) (eqb x b)
  where
    go : index_of b xs ≤ length xs → (t : Bool) → index_after t (index_of b xs) ≤ suc (length xs)
    go h true = zero-le
    go h false = suc-le-suc h

-- the lines of some bytes, the first of them cut off at index k
abbrev cut : ℕ → List ℕ → List (List ℕ)
cut k s = take k s ∷ lines_of (drop (suc k) s)

onto_cut : (x : ℕ) (s : List ℕ) → (0 < length s → lines_of s ≡ cut (index_of newline s) s) →
    onto x (lines_of s) ≡ (x ∷ take (index_of newline s) s) ∷ lines_of (drop (suc (index_of newline s)) s)
unfolding lines_of index_of
onto_cut x [] h = refl
onto_cut x (y ∷ ys) h = rw (h (suc-le-suc zero-le))

pub lines_cut : (s : List ℕ) → 0 < length s → lines_of s ≡ cut (index_of newline s) s
unfolding lines_of index_of index_after
lines_cut [] h = absurd (not-suc-le-zero h)
lines_cut (x ∷ xs) h = go (onto_cut x xs (lines_cut xs)) (eqb x newline)
  where
    go : onto x (lines_of xs) ≡ (x ∷ take (index_of newline xs) xs) ∷ lines_of (drop (suc (index_of newline xs)) xs) →
        (t : Bool) →
        cond t ([] ∷ lines_of xs) (onto x (lines_of xs)) ≡ cut (index_after t (index_of newline xs)) (x ∷ xs)
    go e true = refl
    go e false = e
