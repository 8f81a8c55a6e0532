-- Where what is tested beside the count holds only of few devices, either limit gives the same.
use Prim.Native.Nat.{ℕ, ◌*◌, ◌≤◌, ◌<◌}
use mathlib.Core.Path.{◌≡◌, refl, sym, ◌∙◌}
use mathlib.Core.List.{List}
use mathlib.Core.Bool.{Bool, true, false, ◌&&◌}
use native.Mathlib.Omega.{arith}
use lib.Dec.{eqb, leb}
use lib.ListN.{length}
use borrow.Author.Tests.{eqb-true, le-leb}
use Rattle.record.proofs.Both.{left, right, never}
use Rattle.area.specs.Sizes.{is_count, area_size}
use Rattle.area.specs.Loop.{Loop, count_in, shaped_with, judge_with}
use Rattle.area.proofs.Areas.{judge_zero, is_shaped}
use Rattle.calls.specs.Outcome.{Outcome, after, call_with}
use Rattle.calls.specs.SetUp.{devices_for, is_items, items_fit, set_up_with}
use Rattle.calls.proofs.Powered.{items_least}
use Rattle.saved.specs.Saved.{saved, saved_size, saved_count, edition, headed, formed}
use Rattle.saved.specs.Calls.{bad_save, save_with, open_with}
use Rattle.saved.proofs.Formed.{count_saved}
use Rattle.saved.proofs.Tests.{form_many, open_bad}
use Rattle.limits.specs.Limits.{FewIn, FewItems, FewSaved, LimitsAgree, MoreRefused}

module _ (smaller larger : ℕ) (le : smaller ≤ larger) where
  same_count : (n : ℕ) (t : Bool) → (t ≡ true → n ≤ smaller) → (is_count smaller n && t) ≡ (is_count larger n && t)
  same_count n true h = rw (le-leb n smaller (h refl), le-leb n larger (omega (arith, h refl)))
  same_count n false h = never (is_count smaller n) ∙ sym (never (is_count larger n))

  same_shape : (a : List ℕ) → FewIn smaller a → shaped_with smaller a ≡ shaped_with larger a
  unfolding shaped_with
  same_shape a few = same_count (count_in a) (eqb (length a) (area_size (count_in a))) (at_most few)
    where
      at_most : FewIn smaller a → eqb (length a) (area_size (count_in a)) ≡ true → count_in a ≤ smaller
      at_most (FewIn.by_count h) e = omega (arith, h)
      at_most (FewIn.by_length h) e = omega (arith, h, eqb-true (length a) (area_size (count_in a)) e)

  same_items : (n : ℕ) (a items : List ℕ) → FewItems smaller a items →
      items_fit smaller n a items ≡ items_fit larger n a items
  unfolding items_fit
  same_items n a items few =
      same_count n (eqb (length a) (area_size n) && is_items (length items) n) (at_most few)
    where
      at_most : FewItems smaller a items →
          (eqb (length a) (area_size n) && is_items (length items) n) ≡ true → n ≤ smaller
      at_most (FewItems.by_area h) e =
          let l = left (eqb (length a) (area_size n)) (is_items (length items) n) e in
          omega (arith, h, eqb-true (length a) (area_size n) l)
      at_most (FewItems.by_items h) e =
          let r = right (eqb (length a) (area_size n)) (is_items (length items) n) e in
          omega (arith, h, items_least (length items) n r)

  same_form : (s : List ℕ) → FewSaved smaller s → formed smaller s ≡ formed larger s
  unfolding formed
  same_form s few =
      same_count (saved_count s) (eqb (length s) (saved_size (saved_count s)) && (headed s && leb (edition s) 1))
      (at_most few)
    where
      at_most : FewSaved smaller s →
          (eqb (length s) (saved_size (saved_count s)) && (headed s && leb (edition s) 1)) ≡ true →
          saved_count s ≤ smaller
      at_most (FewSaved.by_count h) e = omega (arith, h)
      at_most (FewSaved.by_length h) e =
          let l = left (eqb (length s) (saved_size (saved_count s))) (headed s && leb (edition s) 1) e in
          omega (arith, h, eqb-true (length s) (saved_size (saved_count s)) l)

  same_judged : (a : List ℕ) → FewIn smaller a → judge_with smaller a ≡ judge_with larger a
  unfolding judge_with
  same_judged a few = rw (same_shape a few)

  same_called : (A : Type 0) (deny : ℕ → A) (call : Loop → Outcome A) (a : List ℕ) → FewIn smaller a →
      call_with smaller deny call a ≡ call_with larger deny call a
  unfolding call_with
  same_called A deny call a few = rw (same_judged a few)

  same_set_up : (a items : List ℕ) → FewItems smaller a items → set_up_with smaller a items ≡ set_up_with larger a items
  unfolding set_up_with
  same_set_up a items few = rw (same_items (devices_for (length a)) a items few)

  same_saving : (a out : List ℕ) → FewIn smaller a → save_with smaller a out ≡ save_with larger a out
  unfolding save_with
  same_saving a out few = rw (same_shape a few)

  same_opening : (lent s : List ℕ) → FewSaved smaller s → open_with smaller lent s ≡ open_with larger lent s
  unfolding open_with
  same_opening lent s few = rw (same_form s few)

pub limits_agree : LimitsAgree
limits_agree smaller larger le =
    record {
      judged = same_judged smaller larger le;
      called = same_called smaller larger le;
      set_up_lem = same_set_up smaller larger le;
      saving = same_saving smaller larger le;
      opening = same_opening smaller larger le;
    }

pub more_refused : MoreRefused
more_refused limit =
    record {
      by_count = λ lent s more. counted lent s (omega (arith, more));
      saved_form = λ a lent h more.
          let s = is_shaped a (judge_zero a h).0 in counted lent (saved a) (rw (count_saved a s) more);
    }
  where
    counted : (lent s : List ℕ) → limit < saved_count s → open_with limit lent s ≡ after bad_save lent
    counted lent s more = open_bad limit lent s (sym (form_many limit s more))
