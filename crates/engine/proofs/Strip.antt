-- A strip of bytes rewritten from the front, w at a time: the front grows by what was given back, and the rest stays.
use Prim.Native.Nat.{ℕ, ◌+◌, ◌≤◌}
use mathlib.Core.Path.{◌≡◌}
use mathlib.Core.List.{List, ◌++◌, append_assoc}
use native.Mathlib.Nat.{add-sub_cancel_left}
use native.Mathlib.Omega.{arith}
use lib.ListN.{length, take, drop, length-append, length-drop}
use lib.Seq.{take_at, drop_at, length-take-le}
use Rattle.area.proofs.Parts.{lent, given_back}

module _ (a b : List ℕ) (at w : ℕ) (room : at + w ≤ length a) (wide : length b ≡ w) where
  rest : List ℕ
  rest = drop w (drop at a)

  back_is : given_back at w b a ≡ (take at a ++ b) ++ rest
  unfolding rest
  back_is = rw (add-sub_cancel_left at w, append_assoc)

  front_wide : length (take at a ++ b) ≡ at + w
  front_wide = rw (length-append, length-take-le at a (omega arith), wide)

  pub front : take (at + w) (given_back at w b a) ≡ take at a ++ b
  front = rw back_is (take_at (take at a ++ b) rest (at + w) front_wide)

  pub behind : drop (at + w) (given_back at w b a) ≡ drop w (drop at a)
  unfolding rest
  behind = rw back_is (drop_at (take at a ++ b) rest (at + w) front_wide)

  pub same : length (given_back at w b a) ≡ length a
  unfolding rest
  same = rw (back_is, length-append, front_wide, length-drop, length-drop) (omega arith)

pub lent_wide : (a : List ℕ) (at w : ℕ) → at + w ≤ length a → length (lent at w a) ≡ w
lent_wide a at w h = rw (add-sub_cancel_left at w) (length-take-le w (drop at a) (rw length-drop (omega arith)))
