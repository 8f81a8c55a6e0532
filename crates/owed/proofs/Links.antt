-- A link owes its frames times the devices ahead, and the links behind it what the definition has for them.
use Prim.Native.Nat.{ℕ, zero, suc, ◌+◌, ◌-◌, ◌*◌, ◌≤◌, ◌<◌}
use mathlib.Core.Path.{◌≡◌, refl}
use mathlib.Core.Bool.{Bool, true, false, cond}
use mathlib.Core.List.{List, [], ◌∷◌}
use native.Mathlib.Omega.{arith}
use native.Mathlib.Nat.{not-suc-le-zero, le_of_suc-le-suc}
use lib.ListN.{length, get_or, drop}
use lib.Dec.{ltb}
use borrow.Author.Tests.{ltb-false}
use Rattle.std.specs.Prelude.{Some, None, unwrap_or}
use Rattle.record.specs.Fits.{Bytes}
use Rattle.area.specs.Sizes.{depth, most_devices}
use Rattle.area.specs.Loop.{size, loop_of, judge_of, link}
use Rattle.area.specs.Lookup.{room_of}
use Rattle.area.proofs.Laws.{loop_sound}
use Rattle.order.specs.Owed.{owed}
use Rattle.calls.proofs.Owing.{owed_few}

-- no link is left from there on
owed_none : (qs : List (List ℕ)) (j : ℕ) → length qs ≤ j → owed (drop j qs) ≡ 0
owed_none [] zero h = refl
owed_none [] (suc j) h = refl
owed_none (q ∷ qs) zero h = absurd (not-suc-le-zero h)
owed_none (q ∷ qs) (suc j) h = owed_none qs j (le_of_suc-le-suc h)

-- link j, with k further links
owed_from : (qs : List (List ℕ)) (j k : ℕ) → j + suc k ≡ length qs →
    owed (drop j qs) ≡ length (get_or qs j []) * k + owed (drop (suc j) qs)
owed_from [] j k e = absurd (omega (arith, e))
owed_from (q ∷ qs) zero k e = let z : length qs ≡ k = omega (arith, e) in rw z
owed_from (q ∷ qs) (suc j) k e = owed_from qs j k (omega (arith, e))

-- the links of an area without a refusal
pub record Known (a : List ℕ) : Type 0 where
  pub ends : length (loop_of a).links ≡ suc (size (loop_of a))
  pub four : (j : ℕ) → length (link (loop_of a) j) ≤ depth
  pub few : owed (loop_of a).links ≤ 2 * (most_devices * (most_devices + 1))

pub known : (a : List ℕ) → Bytes a → judge_of a ≡ 0 → Known a
known a bytes judged =
    let s = loop_sound a bytes judged in
    record { ends = s.ends; four = λ j. (s.frames j).few; few = owed_few (loop_of a) s }

-- a link holds as many frames as one more goes behind, and a full one holds four
pub frames_told : (fs : List ℕ) → length fs ≤ depth → unwrap_or (room_of fs) depth ≡ length fs
frames_told fs few = go (ltb (length fs) depth) refl
  where
    go : (t : Bool) → ltb (length fs) depth ≡ t → unwrap_or (cond t (Some (length fs)) None) depth ≡ length fs
    go true e = refl
    go false e = omega (arith, ltb-false _ _ e)

-- the links before the tail, one after the other, and the tail, which owes none
module _ (a : List ℕ) (k : Known a) (n : ℕ) (e : n ≡ size (loop_of a)) where
  abbrev pub qs : List (List ℕ)
  qs = (loop_of a).links

  -- link j, which holds f frames, is summed too
  pub more : (j hops f : ℕ) → j < n → hops + owed (drop j qs) ≡ owed qs → f ≡ length (link (loop_of a) j) →
      hops + f * (n - j) + owed (drop (j + 1) qs) ≡ owed qs
  more j hops f h s t =
      let z : j + 1 ≡ suc j = omega arith in
      rw (z, t) (omega (arith, owed_from qs j (n - j) (omega (arith, k.ends))))

  pub all_but_tail : owed (drop n qs) ≡ 0
  all_but_tail =
      omega (
        arith,
        owed_from qs n 0 (omega (arith, k.ends)),
        owed_none qs (suc n) (omega (arith, k.ends)),
      )
