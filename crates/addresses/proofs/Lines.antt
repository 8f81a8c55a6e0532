-- What a history carries along a line, whatever its devices do. Each link carries one stream of frames (order,
-- Streams), so what holds of the frames put and of each device passes from device to device; no call is looked at.
use Prim.Native.Nat.{ℕ, zero, suc, ◌<◌}
use native.Mathlib.Omega.{arith}
use mathlib.Core.Path.{◌≡◌, refl, sym, ap, ◌∙◌}
use mathlib.Core.Logic.{◌⊎◌, inl, inr, ⊎_elim}
use mathlib.Core.Option.{some}
use mathlib.Core.List.{List, [], ◌∷◌, ◌++◌, append-nil}
use lib.ListN.{length}
use Rattle.order.specs.Line.{Line, Loop, tail, cell, devices}
use Rattle.order.specs.History.{Turn, hops_in}
use Rattle.order.specs.Through.{Every}
use Rattle.order.proofs.Idle.{Empty}
use Rattle.order.proofs.Streams.{Ran, stays, hopping, acting, Flows, at_tail, at_cell}

-- ---- lists

module _ {A : Type 0} (P : A → Type 0) where
  every_append : (xs ys : List A) → Every P xs → Every P ys → Every P (xs ++ ys)
  every_append [] ys u v = v
  every_append (x ∷ xs) ys u v = (u.0, every_append xs ys u.1 v)

  every_left : (xs ys : List A) → Every P (xs ++ ys) → Every P xs
  every_left [] ys u = tt
  every_left (x ∷ xs) ys u = (u.0, every_left xs ys u.1)

  every_right : (xs ys : List A) → Every P (xs ++ ys) → Every P ys
  every_right [] ys u = u
  every_right (x ∷ xs) ys u = every_right xs ys u.1

not_none : {A : Type 0} {x : A} {xs : List A} → x ∷ xs ≡ [] → ⊥
not_none e = let z : ◌≡◌ {A = ℕ} 0 1 = cc in omega arith

-- a link that is empty afterwards let all of it through
all_of : {A : Type 0} (q X xs q' : List A) → q ++ X ≡ xs ++ q' → q' ≡ [] → xs ≡ q ++ X
all_of q X xs q' e z' = cc (append-nil xs)

module _ (L : Line) where
  open L use {State, Frame, Local, Byte, next, send, act}

  -- P holds of every device's state, each by its number, and F of every frame in a link
  abbrev pub States : (ℕ → State → Type 0) → Loop L → Type 0
  States P (tail q) = Unit {0}
  States P (cell q s r) = P 0 s × States (λ i. P (suc i)) r

  abbrev pub Links : (Frame → Type 0) → Loop L → Type 0
  Links F (tail q) = Every F q
  Links F (cell q s r) = Every F q × Links F r

  pub empty_links : (F : Frame → Type 0) (l : Loop L) → Empty l → Links F l
  empty_links F (tail q) z = rw z tt
  empty_links F (cell q s r) z = (rw z.0 tt, empty_links F r z.1)

  -- an accepted local call keeps P
  abbrev pub Calm : (ℕ → State → Type 0) → Type 0
  Calm P = (i : ℕ) (s s' : State) (c : Local) → act s c ≡ some s' → P i s → P i s'

  -- ---- how many

  -- as many frames are sent as are taken, and as many hops made
  ran_long : {s s' : State} {ts : List (Turn L)} {xs ys : List Frame} {hs : List Byte} → Ran s ts xs s' ys hs →
      (length ys ≡ length xs) × (hops_in ts ≡ length xs)
  ran_long stays = (refl, refl)
  ran_long (hopping a) = let u = ran_long a in (ap suc u.0, ap suc u.1)
  ran_long (acting e a) = ran_long a

  -- from empty links to empty links: as many frames come out as go in, and each device makes as many hops
  pub flows_long : {T : ℕ → List (Turn L)} {G : ℕ → List Byte} {o X : List Frame} {l l' : Loop L} → Flows T G o X l l' →
      Empty l → Empty l' → (length o ≡ length X) × ((i : ℕ) → i < devices l → hops_in (T i) ≡ length X)
  flows_long (at_tail {o = o} {X = X} {q = q} {q' = q'} t g e) z z' =
      (rw (all_of q X o q' e z', z), λ i k. absurd (omega arith))
  flows_long (at_cell {T = T} {X = X} {q = q} {q' = q'} {r = r} xs ys e a w) z z' =
      let here : length xs ≡ length X = rw (all_of q X xs q' e z'.0, z.0) in
      let u = ran_long a in
      let v = flows_long w z.1 z'.1 in (v.0 ∙ u.0 ∙ here, each here u.0 u.1 v.1)
    where
      each : length xs ≡ length X → length ys ≡ length xs → hops_in (T 0) ≡ length xs →
          ((i : ℕ) → i < devices r → hops_in (T (suc i)) ≡ length ys) → (i : ℕ) → i < suc (devices r) →
          hops_in (T i) ≡ length X
      each h k n m zero b = n ∙ h
      each h k n m (suc i) b = m i (omega arith) ∙ k ∙ h

  -- ---- what frames of one sort keep

  -- a device with P that takes a frame with F keeps P and sends a frame with F
  pub record Keeps (F : Frame → Type 0) (P : ℕ → State → Type 0) : Type 0 where
    pub calm : Calm P
    pub next_keeps : (i : ℕ) (s : State) (f : Frame) → F f → P i s → P i (next s f)
    pub send_keeps : (i : ℕ) (s : State) (f : Frame) → F f → P i s → F (send s f)

  later : {F : Frame → Type 0} {P : ℕ → State → Type 0} → Keeps F P → Keeps F (λ i. P (suc i))
  later k =
      record {
        calm = λ i. k.calm (suc i);
        next_keeps = λ i. k.next_keeps (suc i);
        send_keeps = λ i. k.send_keeps (suc i);
      }

  ran_keeps : (F : Frame → Type 0) (P : ℕ → State → Type 0) → Keeps F P → (i : ℕ) {s s' : State} {ts : List (Turn L)}
      {xs ys : List Frame} {hs : List Byte} → Ran s ts xs s' ys hs → P i s → Every F xs → P i s' × Every F ys
  ran_keeps F P k i stays p e = (p, tt)
  ran_keeps F P k i (hopping {s = s} {f = f} a) p e =
      let u = ran_keeps F P k i a (k.next_keeps i s f e.0 p) e.1 in (u.0, (k.send_keeps i s f e.0 p, u.1))
  ran_keeps F P k i (acting {s = s} {s₁ = s₁} {c = c} h a) p e = ran_keeps F P k i a (k.calm i s s₁ c h p) e

  pub flows_keep : (F : Frame → Type 0) (P : ℕ → State → Type 0) → Keeps F P → {T : ℕ → List (Turn L)}
      {G : ℕ → List Byte} {o X : List Frame} {l l' : Loop L} → Flows T G o X l l' → Every F X → Links F l → States P l →
      States P l'
  flows_keep F P k (at_tail t g e) x u p = tt
  flows_keep F P k (at_cell {X = X} {q = q} {q' = q'} xs ys e a w) x u p =
      let v : Every F xs = every_left F xs q' (rw e at (every_append F q X u.0 x)) in
      let b = ran_keeps F P k 0 a p.0 v in
      (b.0, flows_keep F (λ i. P (suc i)) (later k) w b.1 u.1 p.1)

  -- ---- one frame alone

  -- device i takes g i, which makes Q of P, and sends g (i + 1)
  pub record Passes (g : ℕ → Frame) (P Q : ℕ → State → Type 0) : Type 0 where
    pub before : Calm P
    pub after : Calm Q
    pub next_is : (i : ℕ) (s : State) → P i s → Q i (next s (g i))
    pub send_is : (i : ℕ) (s : State) → P i s → send s (g i) ≡ g (suc i)

  onwards : {g : ℕ → Frame} {P Q : ℕ → State → Type 0} → Passes g P Q →
      Passes (λ i. g (suc i)) (λ i. P (suc i)) (λ i. Q (suc i))
  onwards k =
      record {
        before = λ i. k.before (suc i);
        after = λ i. k.after (suc i);
        next_is = λ i. k.next_is (suc i);
        send_is = λ i. k.send_is (suc i);
      }

  ran_none : (Q : ℕ → State → Type 0) → Calm Q → (i : ℕ) {s s' : State} {ts : List (Turn L)} {xs ys : List Frame}
      {hs : List Byte} → Ran s ts xs s' ys hs → xs ≡ [] → Q i s → Q i s' × (ys ≡ [])
  ran_none Q k i stays x q = (q, refl)
  ran_none Q k i (hopping a) x q = absurd (not_none x)
  ran_none Q k i (acting {s = s} {s₁ = s₁} {c = c} h a) x q = ran_none Q k i a x (k i s s₁ c h q)

  ran_one : (g : ℕ → Frame) (P Q : ℕ → State → Type 0) → Passes g P Q → (i : ℕ) {s s' : State} {ts : List (Turn L)}
      {xs ys : List Frame} {hs : List Byte} → Ran s ts xs s' ys hs → xs ≡ g i ∷ [] → P i s →
      Q i s' × (ys ≡ g (suc i) ∷ [])
  ran_one g P Q k i stays x p = absurd (not_none (sym x))
  ran_one g P Q k i (hopping {s = s} {f = f} {xs = xs} a) x p =
      let here : f ≡ g i = cc in
      let none : xs ≡ [] = cc in
      let u = ran_none Q k.after i a none (rw here (k.next_is i s p)) in
      (u.0, rw (u.1, here, k.send_is i s p))
  ran_one g P Q k i (acting {s = s} {s₁ = s₁} {c = c} h a) x p = ran_one g P Q k i a x (k.before i s s₁ c h p)

  pub flows_pass : (g : ℕ → Frame) (P Q : ℕ → State → Type 0) → Passes g P Q → {T : ℕ → List (Turn L)}
      {G : ℕ → List Byte} {o X : List Frame} {l l' : Loop L} → Flows T G o X l l' → X ≡ g 0 ∷ [] → Empty l →
      Empty l' → States P l → States Q l' × (o ≡ g (devices l) ∷ [])
  flows_pass g P Q k (at_tail {o = o} {X = X} {q = q} {q' = q'} t g' e) x z z' p =
      (tt, all_of q X o q' e z' ∙ rw (z, x))
  flows_pass g P Q k (at_cell {X = X} {q = q} {q' = q'} xs ys e a w) x z z' p =
      let b = ran_one g P Q k 0 a (all_of q X xs q' e z'.0 ∙ rw (z.0, x)) p.0 in
      let c = flows_pass (λ i. g (suc i)) (λ i. P (suc i)) (λ i. Q (suc i)) (onwards k) w b.1 z.1 z'.1 p.1
      in ((b.0, c.0), c.1)

  -- ---- one frame, and behind it only frames of one sort

  -- z stands in the stream, and F holds of the frames behind it
  abbrev pub Lately : Frame → (Frame → Type 0) → List Frame → Type 0
  Lately z F [] = ⊥
  Lately z F (x ∷ xs) = ((x ≡ z) × Every F xs) ⊎ Lately z F xs

  pub lately : (z : Frame) (F : Frame → Type 0) (es fs : List Frame) → Every F fs → Lately z F (es ++ z ∷ fs)
  lately z F [] fs h = inl (refl, h)
  lately z F (e ∷ es) fs h = inr (lately z F es fs h)

  lately_behind : (z : Frame) (F : Frame → Type 0) (es fs : List Frame) → Lately z F fs → Lately z F (es ++ fs)
  lately_behind z F [] fs h = h
  lately_behind z F (e ∷ es) fs h = inr (lately_behind z F es fs h)

  -- whatever is taken P stays; z makes Q of it and goes on, and frames with F keep Q
  pub record Leaves (z : Frame) (F : Frame → Type 0) (P Q : ℕ → State → Type 0) : Type 0 where
    pub calm : Calm P
    pub next_keeps : (i : ℕ) (s : State) (f : Frame) → P i s → P i (next s f)
    pub next_is : (i : ℕ) (s : State) → P i s → Q i (next s z)
    pub send_is : (i : ℕ) (s : State) → P i s → send s z ≡ z
    pub keeps : Keeps F Q

  following : {z : Frame} {F : Frame → Type 0} {P Q : ℕ → State → Type 0} → Leaves z F P Q →
      Leaves z F (λ i. P (suc i)) (λ i. Q (suc i))
  following k =
      record {
        calm = λ i. k.calm (suc i);
        next_keeps = λ i. k.next_keeps (suc i);
        next_is = λ i. k.next_is (suc i);
        send_is = λ i. k.send_is (suc i);
        keeps = later k.keeps;
      }

  ran_lately : (z : Frame) (F : Frame → Type 0) (P Q : ℕ → State → Type 0) → Leaves z F P Q → (i : ℕ) {s s' : State}
      {ts : List (Turn L)} {xs ys : List Frame} {hs : List Byte} → Ran s ts xs s' ys hs → Lately z F xs → P i s →
      Q i s' × Lately z F ys
  ran_lately z F P Q k i stays h p = absurd h
  ran_lately z F P Q k i (hopping {s = s} {s' = s'} {f = f} {xs = xs} {ys = ys} a) h p =
      ⊎_elim now (λ u. let v = ran_lately z F P Q k i a u (k.next_keeps i s f p) in (v.0, inr v.1)) h
    where
      now : ((f ≡ z) × Every F xs) → Q i s' × Lately z F (send s f ∷ ys)
      now u =
          let v = ran_keeps F Q k.keeps i a (rw u.0 (k.next_is i s p)) u.1 in
          (v.0, inl (rw u.0 (k.send_is i s p), v.1))
  ran_lately z F P Q k i (acting {s = s} {s₁ = s₁} {c = c} e a) h p = ran_lately z F P Q k i a h (k.calm i s s₁ c e p)

  pub flows_lately : (z : Frame) (F : Frame → Type 0) (P Q : ℕ → State → Type 0) → Leaves z F P Q →
      {T : ℕ → List (Turn L)} {G : ℕ → List Byte} {o X : List Frame} {l l' : Loop L} → Flows T G o X l l' →
      Lately z F X → Empty l' → States P l → States Q l'
  flows_lately z F P Q k (at_tail t g e) x z' p = tt
  flows_lately z F P Q k (at_cell {X = X} {q = q} {q' = q'} xs ys e a w) x z' p =
      let all : Lately z F xs = rw (all_of q X xs q' e z'.0) (lately_behind z F q X x) in
      let b = ran_lately z F P Q k 0 a all p.0 in
      (b.0, flows_lately z F (λ i. P (suc i)) (λ i. Q (suc i)) (following k) w b.1 z'.1 p.1)
