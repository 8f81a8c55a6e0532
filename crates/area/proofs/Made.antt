-- Parts made one after another: the first i that are made, and those that the others become, are all.
use mathlib.Core.Path.{◌≡◌}
use mathlib.Core.List.{List, ◌++◌, map, append_assoc, append-nil}
use Prim.Native.Nat.{ℕ, suc, ◌+◌, ◌-◌, ◌*◌, ◌≤◌, ◌<◌}
use native.Mathlib.Omega.{arith}
use native.Mathlib.Nat.{mul-suc, mul-zero}
use lib.ListN.{length, take, drop}
use lib.Seq.{take_all, drop-drop}
use borrow.Rule.Slice.PartMut.{put_mid}
use Rattle.std.proofs.lemmas.Slice.{take-put_mid}
use Rattle.area.specs.Parts.{parts, join}

module _ (f : List ℕ → List ℕ) (w v n : ℕ) (from : List ℕ) where
  pub record Made (i : ℕ) (to : List ℕ) : Type 0 where
    pub same : take (v * i) to ++ join (map f (parts w (n - i) (drop (w * i) from))) ≡ join (map f (parts w n from))

  pub none_made : (to : List ℕ) → Made 0 to
  none_made to = let z : n - 0 ≡ n = omega arith in record { same = rw (mul-zero v, mul-zero w, z) }

  pub next_made : (i k : ℕ) (to new : List ℕ) → i < n → v * i ≤ length to → length new ≡ v →
      new ≡ f (take w (drop (w * i) from)) → Made i to → Made (i + 1) (put_mid (v * i) k to new)
  unfolding parts join
  next_made i k to new h l e m d =
      let a : n - i ≡ suc (n - (i + 1)) = omega arith in
      let b : v * (i + 1) ≡ v * i + length new = omega (arith, mul-suc v i, e) in
      let c : w * (i + 1) ≡ w * i + w = omega (arith, mul-suc w i) in
      record {
        same = rw (take-put_mid (v * i) k to new (v * (i + 1)) b l, append_assoc, c, ← (drop-drop w (w * i) from), m)
            (rw a at d.same);
      }

  pub all_made : (to : List ℕ) → length to ≡ v * n → Made n to → to ≡ join (map f (parts w n from))
  unfolding parts join
  all_made to l d =
      let a : n - n ≡ 0 = omega arith in
      rw (a, take_all (v * n) to (omega arith), append-nil) at d.same
