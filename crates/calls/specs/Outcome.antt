-- What a call does with a loop and, once for all calls, what it does with an area.
use Rattle.std.specs.Prelude.{ℕ, ◌≡◌, List, cond, eqb}
use Rattle.area.specs.Sizes.{most_devices}
use Rattle.area.specs.Loop.{Loop, loop_of, area_of, judge_with}

-- a call refuses, or it is done: it answers and leaves a loop
pub data Outcome (A : Type 0) : Type 0 where
  refuse : ℕ → Outcome A
  done : A → Loop → Outcome A

-- an answer, and the whole area after the call
pub record After (A : Type 0) : Type 0 where
  pub answer : A
  pub area : List ℕ

abbrev pub after : {A : Type 0} → A → List ℕ → After A
after r x = record { answer = r; area = x }

-- A refusal leaves the area as it was. `deny k` is the answer of refusal k: its number and zeros
abbrev pub after_of : {A : Type 0} → (ℕ → A) → List ℕ → Outcome A → After A
after_of deny a (refuse k) = after (deny k) a
after_of deny a (done r l) = after r (area_of l)

-- a call on an area: refusals 1 and 2 first, else what the call does with the loop in it; by a limit on the devices,
-- and by the one that holds
unfoldable pub call_with : {A : Type 0} → ℕ → (ℕ → A) → (Loop → Outcome A) → List ℕ → After A
call_with limit deny call a =
    let k = judge_with limit a in cond (eqb k 0) (after_of deny a (call (loop_of a))) (after (deny k) a)

abbrev pub call_of : {A : Type 0} → (ℕ → A) → (Loop → Outcome A) → List ℕ → After A
call_of deny call a = call_with most_devices deny call a

-- a call that only reads is done: it answers, and leaves the loop as it was
abbrev pub reads : {A : Type 0} → (Loop → A) → Loop → Outcome A
reads ask l = done (ask l) l

-- the answer r and the area x are those: the form of the contract of every call that may change its area
abbrev pub Is : {A : Type 0} → After A → A → List ℕ → Type 0
Is o r x = (r ≡ o.answer) × (x ≡ o.area)

-- the loop after a call
abbrev pub loop_after : {A : Type 0} → Loop → Outcome A → Loop
loop_after l (refuse k) = l
loop_after l (done r m) = m
