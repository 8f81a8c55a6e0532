-- The walk's tests are the conditions of the table's rows for it, so it is refused as they say, is done where none
-- holds, and goes by the limit on devices in the first of them alone.
use Prim.Native.Nat.{ℕ, ◌≤◌}
use mathlib.Core.Path.{◌≡◌, refl, sym, ap, ◌∙◌}
use mathlib.Core.Bool.{Bool, true, false, not, cond, ◌&&◌, ◌||◌}
use mathlib.Core.List.{List}
use native.Mathlib.Omega.{arith}
use lib.Dec.{leb}
use borrow.Author.Tests.{le-leb}
use Rattle.frame.specs.Messages.{frames}
use Rattle.area.specs.Sizes.{most_devices}
use Rattle.area.specs.Loop.{count_in}
use Rattle.calls.specs.Outcome.{After, after}
use Rattle.walk.specs.Walk.{fits_with, sound_records, refusal_with, Walked, walks, walk_with}
use Rattle.demands.specs.Calls.{Byte, numbers, walk, Answer, walked, pil_with, pil}
use Rattle.demands.specs.Conditions.{due}
use Rattle.demands.specs.Demands.{former_most}
use Rattle.demands.proofs.Lengths.{records_are}
use Rattle.demands.proofs.Refusals.{turned_lt, either_turned}

lengths_turned : (c l t : Bool) → (not t || not (c && l)) ≡ not (c && (l && t))
lengths_turned true true true = refl
lengths_turned true true false = refl
lengths_turned true false true = refl
lengths_turned true false false = refl
lengths_turned false l true = refl
lengths_turned false l false = refl

-- the table's first two rows, turned round
pub rows : (s u : Bool) (k : ℕ) → cond s (cond u k 2) 1 ≡ cond (not s) 1 (cond (not u) 2 k)
rows true true k = refl
rows true false k = refl
rows false u k = refl

-- an answer and what is left, as any call's
abbrev pub as_after : Walked → After Answer
as_after w = after (walked w.answer w.told) w.records

module _ (f : ℕ) (t : List Byte) (a : List ℕ) where
  pub refusal_due : refusal_with most_devices a f (numbers t) ≡ due (walk f t) a
  unfolding refusal_with fits_with sound_records
  refusal_due =
      ap (λ (k : ℕ). cond (fits_with most_devices a (numbers t)) (cond (sound_records a) k 2) 1)
      (sym (turned_lt f frames 4 0))
      ∙ rw (records_are a, lengths_turned, either_turned)
      (rows (fits_with most_devices a (numbers t)) (sound_records a) (cond (leb frames f) 4 0))

  pub walk_done : refusal_with most_devices a f (numbers t) ≡ 0 → pil (walk f t) a ≡ as_after (walks a f)
  unfolding walk_with
  walk_done e = rw e

  pub walk_alike : count_in a ≤ former_most → pil_with former_most (walk f t) a ≡ pil (walk f t) a
  unfolding walk_with refusal_with fits_with
  walk_alike few = rw (le-leb (count_in a) former_most few, le-leb (count_in a) most_devices (omega (arith, few)))
