-- A loop put away and opened: what was opened of a save has that save as its saved form, so it is what was saved.
use Prim.Native.Nat.{ℕ, ◌+◌, ◌*◌}
use mathlib.Core.Path.{◌≡◌, refl, sym}
use mathlib.Core.Bool.{Bool, true, false, cond}
use mathlib.Core.List.{List}
use native.Mathlib.Omega.{arith}
use lib.ListN.{length}
use lib.Dec.{eqb}
use borrow.Author.Tests.{eqb-true}
use Rattle.record.specs.Fits.{Bytes}
use Rattle.area.specs.Loop.{count_in, judge_of}
use Rattle.area.proofs.Areas.{judge_zero}
use Rattle.calls.specs.Outcome.{After, after}
use Rattle.saved.specs.Saved.{saved}
use Rattle.saved.specs.Older.{old, opened}
use Rattle.saved.specs.Calls.{save_of, open_of}
use Rattle.saved.proofs.Tests.{save_done}
use Rattle.saved.proofs.Laws.{save_is, open_is, open_saved, saved_new, one_form, old_form, saved_once}
use Rattle.demands.specs.Histories.{or_stays, put_away}

pub whole : {A : Type 0} {o p : After A} → o.answer ≡ p.answer → o.area ≡ p.area → o ≡ p
whole {A} {o} {p} e f = rw (e, f)

-- a save that is not refused writes the saved form, and an opening that is not leaves what the save opens to
pub save_leaves : (a out : List ℕ) → (save_of a out).answer ≡ 0 → (save_of a out).area ≡ saved a
save_leaves a out h = sym (save_is a out (save_of a out).area (whole h refl)).1

pub open_leaves : (a s : List ℕ) → (open_of a s).answer ≡ 0 → (open_of a s).area ≡ opened s
open_leaves a s h = sym (open_is (open_of a s).area a s (whole h refl))

-- what an opening leaves has no refusal
pub opened_judged : (a s : List ℕ) → Bytes s → (open_of a s).answer ≡ 0 → judge_of (open_of a s).area ≡ 0
opened_judged a s small h = go (old s) refl
  where
    go : (t : Bool) → old s ≡ t → judge_of (open_of a s).area ≡ 0
    go true e = (old_form (open_of a s).area a s small (whole h refl) e).0
    go false e = (one_form (open_of a s).area a s (whole h refl) e).0

-- so the opening of what was saved leaves what was saved, whatever was lent for it
pub opened_again : (a lent : List ℕ) → judge_of a ≡ 0 → (open_of lent (saved a)).answer ≡ 0 →
    (open_of lent (saved a)).area ≡ a
opened_again a lent j h =
    let f = one_form (open_of lent (saved a)).area lent (saved a) (whole h refl) (saved_new a j) in
    saved_once (open_of lent (saved a)).area a f.0 j (sym f.1)

or_stays_lem : (a : List ℕ) (o : After ℕ) → (o.answer ≡ 0 → o.area ≡ a) → (or_stays a o).area ≡ a
or_stays_lem a o h = go (eqb o.answer 0) refl
  where
    go : (t : Bool) → eqb o.answer 0 ≡ t → cond t o.area a ≡ a
    go true e = h (eqb-true _ _ e)
    go false e = refl

pub away_stays : (a out lent : List ℕ) → judge_of a ≡ 0 → (put_away a out lent).area ≡ a
away_stays a out lent j = go (eqb (save_of a out).answer 0) refl
  where
    go : (t : Bool) → eqb (save_of a out).answer 0 ≡ t →
        (cond t (or_stays a (open_of lent (save_of a out).area)) (after (save_of a out).answer a)).area ≡ a
    go true e =
        let s : (save_of a out).area ≡ saved a = save_leaves a out (eqb-true _ _ e) in
        rw s (or_stays_lem a (open_of lent (saved a)) (opened_again a lent j))
    go false e = refl

-- and where the lengths are right neither call is refused
pub away_done : (a out lent : List ℕ) → judge_of a ≡ 0 → length out ≡ 30 + 86 * count_in a → length lent ≡ length a →
    put_away a out lent ≡ after 0 a
away_done a out lent j o l =
    let z = judge_zero a j in rw (save_done a out z.0 (omega arith) z.1, open_saved a lent j l)
