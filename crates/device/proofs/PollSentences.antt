-- The sentences of specs/PollSentences.antt but for those of Assigned: a bit of an or is one where either has it, and
-- what a frame's rule is not for it leaves (Untouched).
use Prim.Native.Nat.{ℕ, zero, suc, ◌^◌, ◌≤◌, max}
use native.Mathlib.Nat.{max-zero, max-eq_right}
use native.Mathlib.Omega.{arith}
use mathlib.Core.Path.{◌≡◌, refl, ap, ◌∙◌}
use mathlib.Core.Bool.{Bool, true, false, not, cond, ◌&&◌, ◌||◌}
use mathlib.Core.List.{List, [], ◌∷◌}
use lib.Dec.{eqb}
use lib.Bits.{bit_or}
use Rattle.frame.specs.Classes.{IsIdentify}
use Rattle.frame.specs.Decoding.{decoded}
use Rattle.frame.specs.Bits.{bit}
use Rattle.frame.proofs.Bits.{bit_below, bit_zero, bit_or_lem, bit_power}
use Rattle.device.specs.Choose.{choose}
use Rattle.device.specs.Poll.{is_assigned, sense, bit_number, answer, answered}
use Rattle.device.specs.Take.{takes}
use Rattle.device.specs.PollSentences.{LeavesPoll, on_bit, answers_at, IdyBits, IdyC1, past_all, polled_by}
use Rattle.device.specs.PollSentences.{PastAll, some_on, all_on, SharedOr, SharedAnd}
use Rattle.device.specs.declared.Device.{Device}
use Rattle.device.proofs.Classes.{idy_frame}
use Rattle.device.proofs.Marked.{idy_shows, answers, marked_c1}
use Rattle.device.proofs.Untouched.{plain, apart, untouched}
use Rattle.device.proofs.Sentences.{idy_goes_on}

-- ---- what is left

-- the status and the ability
others_left : (d : Device) (f : ℕ) →
    ◌≡◌ {A = ℕ × ℕ} ((takes d f).device.pollstatus, (takes d f).device.further) (d.pollstatus, d.further)
others_left d f =
    untouched {A = ℕ × ℕ} _ (plain (λ r e a s k. (s, k))) (apart (λ r e a s k. (s, k))) d f
    (λ r. record { remoting = λ d x. refl; enabling = λ d x. refl }) (λ a d x. refl)

pub leaves_poll : LeavesPoll
leaves_poll =
    record {
      assigned = λ d f n.
          untouched {A = ℕ} _ (plain (λ r e a s k. a)) (apart (λ r e a s k. a)) d f
          (λ r. record { remoting = λ d x. refl; enabling = λ d x. refl }) (λ a. absurd (n a));
      pollstatus = λ d f. ap (λ (p : ℕ × ℕ). p.0) (others_left d f);
      further = λ d f. ap (λ (p : ℕ × ℕ). p.1) (others_left d f);
    }

-- ---- IDY

-- the bits of a device's answer
bit_answer : (i : ℕ) (d : Device) → bit i (answer d) ≡ cond (answers_at i d) 1 0
unfolding answer choose
bit_answer i d =
    go (is_assigned d) (eqb d.pollstatus (sense d)) (eqb (bit_number d) i) (bit_power i (bit_number d))
  where
    go : (a s n : Bool) → bit i (2 ^ bit_number d) ≡ cond n 1 0 →
        bit i (choose a (choose s (2 ^ bit_number d) 0) 0) ≡ cond ((a && n) && s) 1 0
    go true true true e = e
    go true true false e = e
    go true false true e = bit_zero i
    go true false false e = bit_zero i
    go false s n e = bit_zero i

-- and of data bits with it
bit_answered : (i x : ℕ) (d : Device) → bit i (bit_or x (answer d)) ≡ cond (answers_at i d) 1 (bit i x)
bit_answered i x d = bit_or_lem i x (answer d) ∙ ap (λ (y : ℕ). max (bit i x) y) (bit_answer i d) ∙ go (answers_at i d)
  where
    go : (t : Bool) → max (bit i x) (cond t 1 0) ≡ cond t 1 (bit i x)
    go true = max-eq_right (bit_below i x)
    go false = max-zero (bit i x)

pub idy_bits : IdyBits
idy_bits i d f h = ap (λ (x : ℕ). bit i x) (idy_goes_on.answered_bits d f h) ∙ bit_answered i (decoded f).offset d

pub idy_c1 : IdyC1
idy_c1 d f i =
    rw (idy_frame d f i.first i.past)
    (marked_c1 d (answered d (decoded f)) (answers d (idy_shows f i.first i.past)))

-- ---- an IDY past several devices

past_idy : (ds : List Device) (f : ℕ) → IsIdentify f → IsIdentify (past_all ds f)
past_idy [] f i = i
past_idy (d ∷ ds) f i = past_idy ds (takes d f).frame (idy_goes_on.still_idy d f i)

past_bits : (ds : List Device) (f : ℕ) → IsIdentify f →
    (decoded (past_all ds f)).offset ≡ polled_by (decoded f).offset ds
past_bits [] f i = refl
past_bits (d ∷ ds) f i =
    past_bits ds (takes d f).frame (idy_goes_on.still_idy d f i)
    ∙ ap (λ (x : ℕ). polled_by x ds) (idy_goes_on.answered_bits d f i)

pub past_all_lem : PastAll
past_all_lem = record { still_idy = past_idy; bits = past_bits }

-- ---- several devices on one bit

pub shared_or : SharedOr
shared_or i bits [] u = refl
shared_or i bits (d ∷ ds) u =
    shared_or i (bit_or bits (answer d)) ds u.1
    ∙ ap (λ (x : ℕ). cond (some_on i ds) 1 x) (bit_answered i bits d)
    ∙ go (on_bit i d) u.0 (some_on i ds)
  where
    join : (s t : Bool) → cond t 1 (cond s 1 (bit i bits)) ≡ cond (s || t) 1 (bit i bits)
    join true true = refl
    join true false = refl
    join false t = refl

    go : (o : Bool) → (o ≡ true → sense d ≡ 1) → (t : Bool) →
        cond t 1 (cond (o && eqb d.pollstatus (sense d)) 1 (bit i bits)) ≡
        cond ((o && eqb d.pollstatus 1) || t) 1 (bit i bits)
    go false h t = refl
    go true h t = rw (h refl) (join (eqb d.pollstatus 1) t)

pub shared_and : SharedAnd
shared_and i bits [] u w = refl
shared_and i bits (d ∷ ds) u w =
    shared_and i (bit_or bits (answer d)) ds u.1 w.1
    ∙ ap (λ (x : ℕ). cond (all_on i ds) x 1) (bit_answered i bits d)
    ∙ go (on_bit i d) u.0 d.pollstatus w.0 (all_on i ds)
  where
    go : (o : Bool) → (o ≡ true → sense d ≡ 0) → (s : ℕ) → s ≤ 1 → (t : Bool) →
        cond t (cond (o && eqb s (sense d)) 1 (bit i bits)) 1 ≡
        cond ((not o || eqb s 1) && t) (bit i bits) 1
    go false h s l t = refl
    go true h zero l true = rw (h refl)
    go true h zero l false = refl
    go true h (suc zero) l t = rw (h refl)
    go true h (suc (suc s)) l t = absurd (omega arith)
