-- What a walk answers, by what its tests have shown.
use Prim.Native.Nat.{ℕ, ◌≤◌, ◌<◌, ◌*◌}
use mathlib.Core.Path.{◌≡◌, refl}
use mathlib.Core.List.{List, [], ◌∷◌}
use mathlib.Core.Bool.{true, false}
use native.Mathlib.Omega.{arith}
use lib.ListN.{length}
use borrow.Author.Tests.{lt-ltb, le-ltb, leb-true, eqb-true}
use Rattle.frame.specs.Messages.{frames}
use Rattle.frame.specs.Coding.{bad_frame}
use Rattle.record.proofs.Both.{left, right}
use Rattle.area.specs.Sizes.{most_devices, record_at}
use Rattle.area.specs.Loop.{count_in, shape, unsound}
use Rattle.walk.specs.Walk.{told_size, fits_with, sound_records, refusal_with, stays, walks, walk_with, walk_of}
use Rattle.walk.specs.Inner.{Fitting}

-- no bytes have no count
pub none_fit : (a t : List ℕ) → length a ≡ 0 → false ≡ fits_with most_devices a t
unfolding fits_with
none_fit [] t h = refl
none_fit (x ∷ xs) t h = let z : ⊥ = omega arith in absurd z

module _ (a t : List ℕ) where
  pub fitting : fits_with most_devices a t ≡ true → Fitting a t
  unfolding fits_with
  fitting h =
      record {
        some = leb-true 1 (count_in a) (search (left, right));
        few = leb-true (count_in a) most_devices (search (left, right));
        long = eqb-true (length a) (record_at (count_in a)) (search (left, right));
        told = eqb-true (length t) (told_size * count_in a) (search (left, right));
      }

  module _ (f : ℕ) where
    pub walk_shape : fits_with most_devices a t ≡ false → walk_of a f t ≡ stays shape a t
    unfolding walk_with refusal_with
    walk_shape h = rw h

    module _ (fit : fits_with most_devices a t ≡ true) where
      pub walk_unsound : sound_records a ≡ false → walk_of a f t ≡ stays unsound a t
      unfolding walk_with refusal_with
      walk_unsound h = rw (fit, h)

      pub walk_bad : sound_records a ≡ true → frames ≤ f → walk_of a f t ≡ stays bad_frame a t
      unfolding walk_with refusal_with
      walk_bad h k = rw (fit, h, le-ltb f frames k)

      pub walk_done : sound_records a ≡ true → f < frames → walk_of a f t ≡ walks a f
      unfolding walk_with refusal_with
      walk_done h k = rw (fit, h, lt-ltb f frames k)
