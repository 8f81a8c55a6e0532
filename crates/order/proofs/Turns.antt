-- The hops in the turns of all devices are the hops made: an event is a turn of one device at the most, and that is one
-- of the loop's, since past its end no device has turns.
use Prim.Native.Nat.{ℕ, zero, suc, ◌+◌, ◌≤◌, ◌<◌}
use native.Mathlib.Omega.{arith}
use native.Mathlib.Decide.{dec_lt}
use mathlib.Core.Path.{◌≡◌, refl, sym, ap, ◌∙◌}
use mathlib.Core.List.{List, [], ◌∷◌, ◌++◌}
use Rattle.order.specs.Line.{Line, Loop, devices, Event, refused, was_put, hopped, was_taken, called}
use Rattle.order.specs.History.{Turn, hops, does, if_same, sum_over, calls_in, hops_in, turn_by, hop_by}
use Rattle.order.specs.History.{each, turns, hops_made}
use Rattle.order.specs.Order.{TurnsAddUp}
use Rattle.order.proofs.Streams.{Flows, at_tail, at_cell, Step, Steps, no_step, a_step, same_devices, run_ok}

-- ---- the same number, or another

pub here : {A : Type 0} (i : ℕ) (xs : List A) → if_same i i xs ≡ xs
here zero xs = refl
here (suc i) xs = here i xs

pub elsewhere : {A : Type 0} (i j : ℕ) (xs : List A) → (i ≡ j → ⊥) → if_same i j xs ≡ []
elsewhere zero zero xs h = absurd (h refl)
elsewhere zero (suc j) xs h = refl
elsewhere (suc i) zero xs h = refl
elsewhere (suc i) (suc j) xs h = elsewhere i j xs (λ e. h (ap suc e))

-- ---- sums

sum_zero : (n : ℕ) (g : ℕ → ℕ) → ((i : ℕ) → i < n → g i ≡ 0) → sum_over n g ≡ 0
sum_zero zero g z = refl
sum_zero (suc n) g z = omega (arith, sum_zero n g (λ i h. z i (omega arith)), z n (omega arith))

sum_both : (n : ℕ) (g h k : ℕ → ℕ) → ((i : ℕ) → k i ≡ g i + h i) → sum_over n k ≡ sum_over n g + sum_over n h
sum_both zero g h k e = refl
sum_both (suc n) g h k e = omega (arith, sum_both n g h k e, e n)

sum_one : (n j : ℕ) (g : ℕ → ℕ) → j < n → g j ≡ 1 → ((i : ℕ) → (i ≡ j → ⊥) → g i ≡ 0) → sum_over n g ≡ 1
sum_one zero j g h o z = absurd (omega arith)
sum_one (suc n) j g h o z = go (dec_lt j n) (λ k. sum_one n j g k o z)
  where
    go : Dec (j < n) → (j < n → sum_over n g ≡ 1) → sum_over n g + g n ≡ 1
    go (yes k) v = omega (arith, v k, z n (λ e. omega arith))
    go (no k) v =
        let e : n ≡ j = omega arith in
        let s : sum_over n g ≡ 0 = sum_zero n g (λ i m. z i (λ q. omega arith)) in omega (arith, ap g e, o)

module _ {L : Line} where
  open L use {Local}

  hops_append : (s t : List (Turn L)) → hops_in (s ++ t) ≡ hops_in s + hops_in t
  hops_append [] t = omega arith
  hops_append (hops ∷ s) t = omega (arith, hops_append s t)
  hops_append (does c ∷ s) t = hops_append s t

  calls_append : (s t : List (Turn L)) → calls_in (s ++ t) ≡ calls_in s ++ calls_in t
  calls_append [] t = refl
  calls_append (hops ∷ s) t = calls_append s t
  calls_append (does c ∷ s) t = ap (λ (r : List Local). c ∷ r) (calls_append s t)

  -- the local calls among the turns, event by event
  pub calls_each : (es : List (Event L)) (i : ℕ) → calls_in (turns es i) ≡ each (λ e. calls_in (turn_by i e)) es
  calls_each [] i = refl
  calls_each (e ∷ es) i =
      calls_append (turn_by i e) (turns es i) ∙ ap (λ (r : List Local). calls_in (turn_by i e) ++ r) (calls_each es i)

  -- ---- an event's device

  -- past the end of a loop no device has turns
  past_end : {T : ℕ → List (Turn L)} {G : ℕ → List L.Byte} {o X : List L.Frame} {l l' : Loop L} (k : ℕ)
      → Flows T G o X l l' → devices l ≤ k → T k ≡ []
  past_end k (at_tail t g e) h = t k
  past_end zero (at_cell xs ys e a r) h = absurd (omega arith)
  past_end (suc k) (at_cell xs ys e a r) h = past_end k r (omega arith)

  -- so a device that has one is the loop's
  is_there : {l l' : Loop L} (e : Event L) (j : ℕ) (t : Turn L) → Step l e l' → turn_by j e ≡ t ∷ [] → j < devices l
  is_there {l = l} e j t s h = go (dec_lt j (devices l))
    where
      go : Dec (j < devices l) → j < devices l
      go (yes k) = k
      go (no k) =
          let z : [] ≡ t ∷ [] = sym (past_end j s.flows (omega arith)) ∙ h in
          let y : ◌≡◌ {A = ℕ} 0 1 = cc in absurd (omega arith)

  event_adds : {l l' : Loop L} (e : Event L) → Step l e l' → sum_over (devices l) (λ i. hops_in (turn_by i e)) ≡ hop_by e
  event_adds {l = l} refused s = sum_zero (devices l) _ (λ i m. refl)
  event_adds {l = l} (was_put f) s = sum_zero (devices l) _ (λ i m. refl)
  event_adds {l = l} (was_taken f) s = sum_zero (devices l) _ (λ i m. refl)
  event_adds {l = l} (hopped j h) s =
      sum_one (devices l) j _ (is_there (hopped j h) j hops s (here j (hops ∷ []))) (ap hops_in (here j (hops ∷ [])))
      (λ i z. ap hops_in (elsewhere i j (hops ∷ []) z))
  event_adds {l = l} (called j c) s = sum_zero (devices l) _ (λ i m. no_hop_made i j)
    where
      no_hop_made : (i j : ℕ) → hops_in (if_same {A = Turn L} i j (does c ∷ [])) ≡ 0
      no_hop_made zero zero = refl
      no_hop_made zero (suc j) = refl
      no_hop_made (suc i) zero = refl
      no_hop_made (suc i) (suc j) = no_hop_made i j

  steps_add : {l l' : Loop L} {es : List (Event L)} → Steps l es l'
      → sum_over (devices l) (λ i. hops_in (turns es i)) ≡ hops_made es
  steps_add {l = l} no_step = sum_zero (devices l) _ (λ i m. refl)
  steps_add {l = l} (a_step {e = e} {es = es} x a) =
      sum_both (devices l) (λ i. hops_in (turn_by i e)) (λ i. hops_in (turns es i)) _
      (λ i. hops_append (turn_by i e) (turns es i))
      ∙ rw (event_adds e x) (ap (λ (n : ℕ). hop_by e + n) (rw (← same_devices x.flows) at (steps_add a)))

pub turns_add_up : (L : Line) → TurnsAddUp L
turns_add_up L l l' cs es e = steps_add (rw e at (run_ok l cs))
