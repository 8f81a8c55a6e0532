-- A hop moves one frame past one device, so one hop fewer is owed. A frame in the first link has every device ahead of
-- it, one in the next link one device fewer, and so on: the bound is the sum of these, d times each. Behind the last
-- link that holds a frame there is room, so that there is always a hop or a take to make.
use Prim.Native.Nat.{ℕ, zero, suc, ◌+◌, ◌*◌, ◌≤◌}
use native.Mathlib.Omega.{arith}
use native.Mathlib.Nat.{mul-le-mul_right}
use mathlib.Core.Path.{◌≡◌, refl, sym, ◌∙◌, ap}
use mathlib.Core.Option.{Option, none, some, map}
use mathlib.Core.List.{List, [], ◌∷◌}
use lib.ListN.{length, get_or}
use Rattle.order.specs.Line.{Line, Loop, tail, cell, push, hop_at, take_out, accepts}
use Rattle.order.specs.Flat.{Flat, links_of, flat, line_up, hop_flat}
use Rattle.order.specs.Owed.{owed, Owed, HopPays, OwedAtMost, Progress, hop_accepted, take_accepted}
use Rattle.order.specs.Owed.{NeverStuck}
use Rattle.order.proofs.Flat.{map_accepts, same_flat}
use Rattle.order.proofs.Idle.{Empty, push_onto}
use Rattle.order.proofs.Streams.{AfterHop, hop_ok, run_ok, steps_count}

module _ (L : Line) where
  open L use {Frame, Byte, send}

  pub owed_law : Owed L
  owed_law l l' cs es e = steps_count (rw e at (run_ok l cs))

  -- a hop by numbers is the line's own hop, laid flat
  pub hop_pays : HopPays L
  hop_pays x y i h ends e =
      omega (
        arith,
        go (hop_at l i) (hop_ok l i) (sym ((same_flat L).same_hop l i) ∙ ap (λ (z : Flat L). hop_flat z i) rows ∙ e),
      )
    where
      l : Loop L
      l = line_up x.links x.states

      rows : flat l ≡ x
      rows = (same_flat L).same_rows x ends

      go : (o : Option (Loop L × Option Byte)) → AfterHop l i o
          → map {B = Flat L × Option Byte} (λ p. (flat p.0, p.1)) o ≡ some (y, h)
          → owed y.links + 1 ≡ owed x.links
      go none u q = let z : ◌≡◌ {A = ℕ} 0 1 = cc in absurd (omega arith)
      go (some p) u q =
          let same : ◌≡◌ {A = Flat L × Option Byte} (flat p.0, p.1) (y, h) = cc in
          omega (
            arith,
            u.count,
            ap (λ (v : Flat L × Option Byte). owed v.0.links) same,
            ap (λ (v : Flat L). owed v.links) rows,
          )

  -- ---- a hop or a take, or all links are empty

  data Moving (l : Loop L) : Type 0 where
    moving : Progress l → Moving l
    still : Empty l → Moving l

  move : (l : Loop L) → Moving l
  move (tail []) = still refl
  move (tail (f ∷ q)) = moving (take_accepted refl)
  move (cell q s r) = go (move r)
    where
      -- the links behind are empty, and so the next one has room for what the device sends
      last : (q : List Frame) → Empty r → Moving (cell q s r)
      last [] z = still (refl, z)
      last (f ∷ q) z =
          moving (hop_accepted 0 (map_accepts _ (push r (send s f)) ∙ ap (λ o. accepts o) (push_onto r (send s f) z)))

      go : Moving r → Moving (cell q s r)
      go (moving (hop_accepted i e)) = moving (hop_accepted (suc i) (map_accepts _ (hop_at r i) ∙ e))
      go (moving (take_accepted e)) = moving (take_accepted (map_accepts _ (take_out r) ∙ e))
      go (still z) = last q z

  empty_link : (l : Loop L) → Empty l → (j : ℕ) → get_or (links_of l) j [] ≡ []
  empty_link (tail q) z zero = z
  empty_link (tail q) z (suc j) = refl
  empty_link (cell q s r) z zero = z.0
  empty_link (cell q s r) z (suc j) = empty_link r z.1 j

  pub never_stuck : NeverStuck L
  never_stuck l j h = go (move l)
    where
      go : Moving l → Progress l
      go (moving m) = m
      go (still z) = absurd (h (empty_link l z j))

-- ---- the bound

pub owed_at_most : OwedAtMost
owed_at_most A d n [] e h = absurd (omega (arith, e))
owed_at_most A d n (q ∷ []) e h = omega arith
owed_at_most A d zero (q ∷ r ∷ qs) e h = absurd (omega (arith, e))
owed_at_most A d (suc n) (q ∷ r ∷ qs) e h =
    let w : d * suc (length qs) ≡ d * suc n = let z : length qs ≡ n = omega (arith, e) in ap (λ k. d * suc k) z in
    let m : length q * suc (length qs) ≤ d * suc (length qs) = mul-le-mul_right (suc (length qs)) (h 0) in
    omega (arith, w, m, owed_at_most A d n (r ∷ qs) (omega (arith, e)) (λ j. h (suc j)))
