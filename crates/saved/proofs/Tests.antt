-- What save and open do, by the tests that the code makes: each is one way through the definition's tests.
use mathlib.Core.Path.{◌≡◌}
use mathlib.Core.List.{List}
use mathlib.Core.Bool.{true, false, ◌&&◌}
use Prim.Native.Nat.{ℕ, ◌≤◌, ◌<◌}
use lib.Dec.{leb}
use lib.ListN.{length, get_or-eq_default}
use borrow.Author.Tests.{eq-eqb, ne_eqb, lt-leb}
use Rattle.record.proofs.Both.{never}
use Rattle.area.specs.Sizes.{is_count, area_size}
use Rattle.area.specs.Loop.{count_in, shaped, sound, shape, unsound}
use Rattle.calls.specs.Outcome.{after}
use Rattle.saved.specs.Saved.{head_size, saved, saved_size, saved_count, edition, headed, formed, contents}
use Rattle.saved.specs.Older.{opened, sound_save}
use Rattle.saved.specs.Inner.{old_opened}
use Rattle.saved.specs.Calls.{bad_save, save_of, save_with, open_with}

module _ (a out : List ℕ) where
  pub save_shape : shaped a ≡ false → save_of a out ≡ after shape out
  unfolding save_with
  save_shape h = rw h

  pub save_long : shaped a ≡ true → (length out ≡ saved_size (count_in a) → ⊥) → save_of a out ≡ after shape out
  unfolding save_with
  save_long h k = rw (h, ne_eqb _ _ k)

  pub save_unsound : shaped a ≡ true → length out ≡ saved_size (count_in a) → sound a ≡ false →
      save_of a out ≡ after unsound out
  unfolding save_with
  save_unsound h k s = rw (h, eq-eqb _ _ k, s)

  pub save_done : shaped a ≡ true → length out ≡ saved_size (count_in a) → sound a ≡ true →
      save_of a out ≡ after 0 (saved a)
  unfolding save_with
  save_done h k s = rw (h, eq-eqb _ _ k, s)

module _ (limit : ℕ) (a s : List ℕ) where
  pub open_bad : formed limit s ≡ false → open_with limit a s ≡ after bad_save a
  unfolding open_with
  open_bad h = rw h

  pub open_shape : formed limit s ≡ true → (length a ≡ area_size (saved_count s) → ⊥) →
      open_with limit a s ≡ after shape a
  unfolding open_with
  open_shape h k = rw (h, ne_eqb _ _ k)

  pub open_unsound : formed limit s ≡ true → length a ≡ area_size (saved_count s) → sound (contents s) ≡ false →
      open_with limit a s ≡ after unsound a
  unfolding open_with sound_save
  open_unsound h k t = rw (h, eq-eqb _ _ k, t)

  module _ (h : formed limit s ≡ true) (k : length a ≡ area_size (saved_count s)) (t : sound (contents s) ≡ true) where
    pub open_new : (edition s ≡ 0 → ⊥) → open_with limit a s ≡ after 0 (contents s)
    unfolding open_with sound_save opened
    open_new n = rw (h, eq-eqb _ _ k, t, ne_eqb _ _ n)

    pub open_old : edition s ≡ 0 → open_with limit a s ≡ old_opened a s
    unfolding open_with sound_save opened
    open_old e = rw (h, eq-eqb _ _ k, t, e)

-- ---- the form of a save

module _ (limit : ℕ) (s : List ℕ) where
  pub form_count : is_count limit (saved_count s) ≡ false → false ≡ formed limit s
  unfolding formed
  form_count h = rw h

  pub form_many : limit < saved_count s → false ≡ formed limit s
  form_many h = form_count (rw (lt-leb _ _ h, never))

  pub form_short : length s ≤ head_size → false ≡ formed limit s
  form_short h = form_count (rw (get_or-eq_default s 0 {n = head_size} h))

  pub form_long : (length s ≡ saved_size (saved_count s) → ⊥) → false ≡ formed limit s
  unfolding formed
  form_long h = rw (ne_eqb _ _ h, never)

  pub form_heads : is_count limit (saved_count s) ≡ true → length s ≡ saved_size (saved_count s) →
      (headed s && leb (edition s) 1) ≡ formed limit s
  unfolding formed headed
  form_heads h l = rw (h, eq-eqb _ _ l)
