-- What a call on a device by its number does, by what was found: each is one way through the tests of `found_of`.
use mathlib.Core.Path.{◌≡◌, refl, sym, ap, ◌∙◌}
use mathlib.Core.List.{List}
use mathlib.Core.Bool.{Bool, true, false, cond}
use Prim.Native.Nat.{ℕ, ◌≤◌}
use native.Mathlib.Omega.{arith}
use lib.Dec.{eqb}
use borrow.Author.Tests.{eq-eqb, ne_eqb, eqb-true, eqb-false}
use Rattle.std.specs.Prelude.{Option, Some, None, Result, Ok, Err}
use Rattle.refusal.specs.Refusal.{number, numbered}
use Rattle.refusal.specs.declared.Refusal.{Refusal}
use Rattle.refusal.proofs.Numbers.{one_reason}
use Rattle.area.specs.Loop.{Loop, size, loop_of, judge_of, HasDevice}
use Rattle.area.specs.Lookup.{place_of}
use Rattle.calls.specs.Outcome.{Outcome, refuse, after_of, call_of, Is}
use Rattle.calls.specs.Calls.{no_device}
use Rattle.calls.proofs.Outcomes.{call_refused, call_done, place_at, place_none}
use Rattle.find.specs.Find.{found_at, found_of}

-- ---- what is found, by the tests made

module _ (a : List ℕ) (i : ℕ) where
  pub found_wrong : (k : ℕ) → k ≡ judge_of a → (k ≡ 0 → ⊥) → Err k ≡ found_of a i
  unfolding found_of
  found_wrong k e n = rw (ne_eqb _ _ (λ z. n (e ∙ z)), e)

  pub found_none : judge_of a ≡ 0 → place_of (loop_of a) i ≡ None → Err no_device ≡ found_of a i
  unfolding found_of
  found_none j p = rw (eq-eqb _ _ j) (sym (ap found_at p))

  pub found_some : (k : ℕ) → judge_of a ≡ 0 → place_of (loop_of a) i ≡ Some k → Ok k ≡ found_of a i
  unfolding found_of
  found_some k j p = rw (eq-eqb _ _ j) (sym (ap found_at p))

-- what is found, with its refusal as a number, leaves one answer
pub one_found : (r s : Result ℕ Refusal) → numbered r ≡ numbered s → r ≡ s
one_found (Ok i) (Ok j) e = cc
one_found (Ok i) (Err refusal) e = cc
one_found (Err refusal) (Ok j) e = cc
one_found (Err refusal) (Err other) e =
    let same : number refusal ≡ number other = cc in
    ap Err (one_reason refusal other same)

-- ---- the call, by what was found

-- a device that is found is there
pub found_there : (a : List ℕ) (i k : ℕ) → found_of a i ≡ Ok k → HasDevice a k × (k ≡ i)
unfolding found_of
found_there a i k e = go (eqb (judge_of a) 0) (place_of (loop_of a) i) refl refl e
  where
    go : (t : Bool) (p : Option ℕ) → eqb (judge_of a) 0 ≡ t → place_of (loop_of a) i ≡ p →
        cond t (found_at p) (Err (judge_of a)) ≡ Ok k → HasDevice a k × (k ≡ i)
    go true (Some j) p q f =
        let h = place_at (loop_of a) i j q in
        let u : k ≡ j = cc in
        let s : k ≡ i = u ∙ h.1 in (record { judged = eqb-true _ _ p; there = rw s h.0 }, s)
    go true None p q f = let z : ◌≡◌ {A = ℕ} 0 1 = cc in let y : ⊥ = omega arith in absurd y
    go false q p r f = let z : ◌≡◌ {A = ℕ} 0 1 = cc in let y : ⊥ = omega arith in absurd y

module _ {A : Type 0} (deny : ℕ → A) (call : Loop → Outcome A) (a : List ℕ) (i : ℕ)
    (none : size (loop_of a) ≤ i → call (loop_of a) ≡ refuse no_device) where
  pub refused_as_found : (k : ℕ) (r : A) → found_of a i ≡ Err k → r ≡ deny k → Is (call_of deny call a) r a
  unfolding found_of
  refused_as_found k r e d = go (eqb (judge_of a) 0) (place_of (loop_of a) i) refl refl e
    where
      go : (t : Bool) (p : Option ℕ) → eqb (judge_of a) 0 ≡ t → place_of (loop_of a) i ≡ p →
          cond t (found_at p) (Err (judge_of a)) ≡ Err k → Is (call_of deny call a) r a
      go true (Some j) p q f = let z : ◌≡◌ {A = ℕ} 0 1 = cc in let y : ⊥ = omega arith in absurd y
      go true None p q f =
          let s : k ≡ no_device = cc in
          rw (call_done deny call a (eqb-true _ _ p), none (place_none (loop_of a) i q)) (d ∙ ap deny s, refl)
      go false q p u f =
          let s : k ≡ judge_of a = cc in
          rw (call_refused deny call a (eqb-false _ _ p)) (d ∙ ap deny s, refl)

  pub done_as_found : (k : ℕ) (r : A) (x : List ℕ) → found_of a i ≡ Ok k →
      Is (after_of deny a (call (loop_of a))) r x → Is (call_of deny call a) r x
  done_as_found k r x e h = rw (call_done deny call a (found_there a i k e).0.judged) h
