-- Parts of one width: what their lengths come to, and that they are cut again where they were put together.
use mathlib.Core.Path.{◌≡◌, refl}
use mathlib.Core.List.{List, [], ◌∷◌, ◌++◌, map, append_assoc}
use Prim.Native.Nat.{ℕ, zero, suc, ◌+◌, ◌*◌, ◌≤◌}
use native.Mathlib.Omega.{arith}
use native.Mathlib.Nat.{mul-suc, mul-zero, add_comm}
use lib.ListN.{length, take, drop, length-append, length-drop}
use lib.Seq.{length-take-le, take_at, drop_at}
use Rattle.area.specs.Parts.{parts, join}

-- each part is w bytes
unfoldable pub Wide : ℕ → List (List ℕ) → Type 0
Wide w [] = Unit {0}
Wide w (p ∷ ps) = (length p ≡ w) × Wide w ps

pub parts_wide : (w n : ℕ) (b : List ℕ) → w * n ≤ length b → Wide w (parts w n b)
unfolding parts Wide
parts_wide w zero b h = tt
parts_wide w (suc n) b h =
    let l : w + w * n ≤ length b = rw (mul-suc, add_comm (w * n) w) at h in
    (length-take-le w b (omega arith), parts_wide w n (drop w b) (simp length-drop (omega arith)))

module _ (f : List ℕ → List ℕ) (w v : ℕ) (wide : (p : List ℕ) → length p ≡ w → length (f p) ≡ v) where
  pub map_wide : (ps : List (List ℕ)) → Wide w ps → Wide v (map f ps)
  unfolding Wide
  map_wide [] h = tt
  map_wide (p ∷ ps) h = (wide p h.0, map_wide ps h.1)

module _ (w : ℕ) where
  pub length_wide : (ps : List (List ℕ)) → Wide w ps → length (join ps) ≡ w * length ps
  unfolding join Wide
  length_wide [] h = rw mul-zero
  length_wide (p ∷ ps) h = rw (length-append, h.0, length_wide ps h.1, mul-suc) (omega arith)

  pub cut_wide : (ps : List (List ℕ)) (rest : List ℕ) → Wide w ps → parts w (length ps) (join ps ++ rest) ≡ ps
  unfolding join parts Wide
  cut_wide [] rest h = refl
  cut_wide (p ∷ ps) rest h =
      let t : take w (p ++ (join ps ++ rest)) ≡ p = take_at p _ w h.0 in
      let d : drop w (p ++ (join ps ++ rest)) ≡ join ps ++ rest = drop_at p _ w h.0 in
      rw (append_assoc, t, d, cut_wide ps rest h.1)
