-- A stretch that is zero past a length, one byte more tested at each turn: a byte within the length may be anything.
use Prim.Native.Nat.{ℕ, zero, suc, ◌+◌, ◌-◌, ◌≤◌, ◌<◌}
use mathlib.Core.Path.{◌≡◌, refl, sym}
use mathlib.Core.Bool.{Bool, true, false, ◌&&◌, ◌||◌, and-true, and_assoc}
use mathlib.Core.List.{List}
use native.Mathlib.Omega.{arith}
use lib.Dec.{eqb, ltb}
use lib.ListN.{drop, get_or}
use lib.Seq.{drop-nil}
use borrow.Author.Tests.{ltb-true, ltb-false}
use Rattle.device.specs.PowerOn.{bytes_from}
use Rattle.record.specs.Record.{zeros}

module _ (b : List ℕ) (from width past : ℕ) where
  -- what is left to test from byte i of the stretch on
  abbrev pub left : ℕ → Bool
  left i = zeros (drop (past - i) (bytes_from (from + i) (width - i) b))

  pub all_left : left 0 ≡ zeros (drop past (bytes_from from width b))
  all_left =
      let p : past - 0 ≡ past = omega arith in
      let f : from + 0 ≡ from = omega arith in
      let w : width - 0 ≡ width = omega arith in rw (p, f, w)

  pub turned : (i : ℕ) (r : Bool) → i < width →
      ((r && (ltb i past || eqb (get_or b (from + i) 0) 0)) && left (i + 1)) ≡ (r && left i)
  unfolding zeros bytes_from
  turned i r h = go (ltb i past) refl
    where
      f : from + (i + 1) ≡ suc (from + i)
      f = omega arith

      w : width - i ≡ suc (width - (i + 1))
      w = omega arith

      go : (t : Bool) → ltb i past ≡ t →
          ((r && (t || eqb (get_or b (from + i) 0) 0)) && left (i + 1)) ≡ (r && left i)
      go true e =
          let k = ltb-true i past e in
          let p : past - i ≡ suc (past - (i + 1)) = omega arith in rw (p, f, w, and-true r)
      go false e =
          let k = ltb-false i past e in
          let p : past - i ≡ 0 = omega arith in
          let q : past - (i + 1) ≡ 0 = omega arith in
          rw (p, q, f, w) (and_assoc r (eqb (get_or b (from + i) 0) 0) _)

  pub none_left : (i : ℕ) (r : Bool) → width ≤ i → (r && left i) ≡ r
  unfolding zeros bytes_from
  none_left i r h = let w : width - i ≡ 0 = omega arith in rw (w, drop-nil, and-true)

-- two stretches that follow each other are one
pub joined : (b : List ℕ) (k m n : ℕ) →
    zeros (bytes_from k (m + n) b) ≡ (zeros (bytes_from k m b) && zeros (bytes_from (k + m) n b))
unfolding zeros bytes_from
joined b k zero n =
    let p : 0 + n ≡ n = omega arith in let q : k + 0 ≡ k = omega arith in rw (p, q)
joined b k (suc m) n =
    let p : suc m + n ≡ suc (m + n) = omega arith in
    let q : k + suc m ≡ suc k + m = omega arith in
    rw (p, q, joined b (suc k) m n) (sym (and_assoc (eqb (get_or b k 0) 0) (zeros (bytes_from (suc k) m b)) _))
