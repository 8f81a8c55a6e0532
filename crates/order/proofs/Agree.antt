-- A device with the same turns that takes the same frames sends the same frames. So from link to link two histories
-- with the same frames and turns have the same streams, and once all links are empty nothing else is left to differ.
use Prim.Native.Nat.{ℕ, zero, suc}
use mathlib.Core.Path.{◌≡◌, refl, sym, ◌∙◌, subst, fun_ext}
use mathlib.Core.List.{List, [], ◌++◌, append-nil}
use Rattle.order.specs.Line.{Line, Loop, Event}
use Rattle.order.specs.History.{Turn, puts, taken, handed, turns}
use Rattle.order.proofs.Idle.{Empty}
use Rattle.order.proofs.Streams.{Ran, stays, hopping, acting, Flows, at_tail, at_cell, Steps, steps_flows}

-- all that went into a link came out of it, if it is empty at the end
whole : {A : Type 0} (q X X' o o' q' q'' : List A) → q ++ X ≡ o ++ q' → q ++ X' ≡ o' ++ q'' → X ≡ X' → q' ≡ [] → q'' ≡ []
    → o ≡ o'
whole q X X' o o' q' q'' e e' x z z' = cc (append-nil o, append-nil o')

split : {A : Type 0} (G G' : ℕ → List A) → G 0 ≡ G' 0 → ((k : ℕ) → G (suc k) ≡ G' (suc k)) → (k : ℕ) → G k ≡ G' k
split G G' z s zero = z
split G G' z s (suc k) = s k

module _ {L : Line} where
  open L use {State, Frame, Byte}

  ran_same : {s s₁ s₂ : State} {ts : List (Turn L)} {xs ys₁ ys₂ : List Frame} {hs₁ hs₂ : List Byte}
      → Ran s ts xs s₁ ys₁ hs₁ → Ran s ts xs s₂ ys₂ hs₂ → (s₁ ≡ s₂) × (ys₁ ≡ ys₂) × (hs₁ ≡ hs₂)
  ran_same stays stays = (refl, refl, refl)
  ran_same (hopping a) (hopping b) = let u = ran_same a b in (u.0, cc, cc)
  ran_same {s₂ = s₂} {ys₂ = ys₂} (acting {s₁ = t₁} {ts = ts} {xs = xs} e a) (acting {s₁ = t₂} {hs = hs₂} e' b) =
      let same : t₂ ≡ t₁ = cc in ran_same a (subst (λ (t : State). Ran t ts xs s₂ ys₂ hs₂) same b)

  agree : {T : ℕ → List (Turn L)} {G G' : ℕ → List Byte} {o o' X X' : List Frame} {l l₁ l₂ : Loop L}
      → Flows T G o X l l₁ → Flows T G' o' X' l l₂ → X ≡ X' → Empty l₁ → Empty l₂
      → (l₁ ≡ l₂) × (o ≡ o') × ((k : ℕ) → G k ≡ G' k)
  agree (at_tail {o = o} {X = X} {q = q} {q' = q'} t g e) (at_tail {o = o'} {X = X'} {q' = q''} t' g' e') x z z' =
      (cc, whole q X X' o o' q' q'' e e' x z z', λ k. g k ∙ sym (g' k))
  agree (at_cell {T = T} {G = G} {X = X} {q = q} {q' = q'} {s = s} xs ys e a k)
      (at_cell {G = G'} {X = X'} {q' = q''} {s' = s₂} xs' ys' e' a' k') x z z' =
      let same : xs' ≡ xs = sym (whole q X X' xs xs' q' q'' e e' x z.0 z'.0) in
      let u = ran_same a (subst (λ (w : List Frame). Ran s (T 0) w s₂ ys' (G' 0)) same a') in
      let v = agree k k' u.1 z.1 z'.1 in
      (cc (u.0, v.0, z.0, z'.0), v.1, split G G' u.2 v.2)

  -- two ways to an empty loop
  pub two_ways : {l l₁ l₂ : Loop L} {es₁ es₂ : List (Event L)} → Steps l es₁ l₁ → Steps l es₂ l₂ → Empty l₁ → Empty l₂
      → puts es₁ ≡ puts es₂ → ((i : ℕ) → turns es₁ i ≡ turns es₂ i)
      → (l₁ ≡ l₂) × (taken es₁ ≡ taken es₂) × ((i : ℕ) → handed es₁ i ≡ handed es₂ i)
  two_ways {l = l} {l₁ = l₁} {es₁ = es₁} {es₂ = es₂} a b z₁ z₂ p t =
      let t' : turns es₁ ≡ turns es₂ = fun_ext t in
      let k : Flows (turns es₂) (handed es₁) (taken es₁) (puts es₁) l l₁ = rw t' at (steps_flows a) in
      agree k (steps_flows b) p z₁ z₂
