-- Each call by numbers is the call on the line, device after device: with one more link and device in front every
-- number is one greater and nothing else changes.
use Prim.Native.Nat.{ℕ, zero, suc, ◌≤◌, ◌<◌}
use native.Mathlib.Omega.{arith}
use native.Mathlib.Nat.{not-suc-le-zero, le_of_suc-le-suc}
use mathlib.Core.Path.{◌≡◌, refl, sym, ◌∙◌, ap}
use mathlib.Core.Bool.{Bool, true, false, cond}
use mathlib.Core.Option.{Option, none, some, map}
use mathlib.Core.List.{List, [], ◌∷◌, ◌++◌}
use lib.ListN.{length, get_or, get_elem?}
use lib.Dec.{ltb}
use Rattle.order.specs.Line.{Line, Loop, tail, cell, devices, push, hop_at, take_out, call_at, accepts, greatest}
use Rattle.order.specs.Line.{can_hop, highest}
use Rattle.order.specs.Flat.{Flat, links_of, states_of, flat, line_up, link, room, set_link, set_state, add, put_flat}
use Rattle.order.specs.Flat.{hop_from, hop_flat}
use Rattle.order.specs.Flat.{take_from, take_flat, call_from, call_flat, can_flat, highest_flat, SameFlat}

map_cond : {A B : Type 0} (g : A → B) (b : Bool) (x : A)
    → cond b (some (g x)) none ≡ map g (cond b (some x) none)
map_cond g true x = refl
map_cond g false x = refl

map_map_cond : {A B C : Type 0} (h : B → C) (g : A → B) (b : Bool) (x : A)
    → cond b (some (h (g x))) none ≡ map h (map g (cond b (some x) none))
map_map_cond h g true x = refl
map_map_cond h g false x = refl

-- two ways round that are the same for every answer
map_swap : {A B B' C : Type 0} (h : B → C) (g : A → B) (h' : B' → C) (g' : A → B') → ((a : A) → h (g a) ≡ h' (g' a))
    → (o : Option A) → map h (map g o) ≡ map h' (map g' o)
map_swap h g h' g' e none = refl
map_swap h g h' g' e (some a) = ap (λ c. some c) (e a)

pub map_accepts : {A B : Type 0} (g : A → B) (o : Option A) → accepts (map g o) ≡ accepts o
map_accepts g none = refl
map_accepts g (some a) = refl

cond_accepts : {A : Type 0} (b : Bool) (x : A) → accepts (cond b (some x) none) ≡ b
cond_accepts true x = refl
cond_accepts false x = refl

-- two tests that agree below n
greatest_same : (p q : ℕ → Bool) (n : ℕ) → ((i : ℕ) → i < n → p i ≡ q i) → greatest p n ≡ greatest q n
greatest_same p q zero e = refl
greatest_same p q (suc n) e = rw (e n (omega arith), greatest_same p q n (λ i h. e i (omega arith)))

-- an entry by its number, if there are so many
pub there : {A : Type 0} (xs : List A) (i : ℕ) (d : A) → i < length xs → get_elem? xs i ≡ some (get_or xs i d)
there [] i d h = absurd (not-suc-le-zero h)
there (x ∷ xs) zero d h = refl
there (x ∷ xs) (suc i) d h = there xs i d (le_of_suc-le-suc h)

pub gone : {A : Type 0} (xs : List A) (i : ℕ) → length xs ≤ i → get_elem? xs i ≡ none
gone [] i h = refl
gone (x ∷ xs) zero h = absurd (not-suc-le-zero h)
gone (x ∷ xs) (suc i) h = gone xs i (le_of_suc-le-suc h)

module _ {L : Line} where
  open L use {State, Frame, Local, Byte, next, send, hand, act, depth}

  -- one more link and device in front; a loop laid flat, and one with a link and a device more, each with an answer
  abbrev in_front : List Frame → State → Flat L → Flat L
  in_front q s x = record { links = q ∷ x.links; states = s ∷ x.states }

  abbrev front_with : {A : Type 0} → List Frame → State → Flat L × A → Flat L × A
  front_with q s p = (in_front q s p.0, p.1)

  abbrev flat_with : {A : Type 0} → Loop L × A → Flat L × A
  flat_with p = (flat p.0, p.1)

  abbrev cell_with : {A : Type 0} → List Frame → State → Loop L × A → Loop L × A
  cell_with q s p = (cell q s p.0, p.1)

  flat_put : (l : Loop L) (f : Frame) → put_flat (flat l) f ≡ map (λ l'. flat l') (push l f)
  flat_put (tail q) f = map_cond (λ l'. flat l') (ltb (length q) depth) (tail (q ++ f ∷ []))
  flat_put (cell q s r) f = map_cond (λ l'. flat l') (ltb (length q) depth) (cell (q ++ f ∷ []) s r)

  hop_in_lem : (q : List Frame) (s : State) (x : Flat L) (i : ℕ) (o : Option State) (z : List Frame)
      → hop_from (in_front q s x) (suc i) o z ≡ map (front_with q s) (hop_from x i o z)
  hop_in_lem q s x i none z = refl
  hop_in_lem q s x i (some t) [] = refl
  hop_in_lem q s x i (some t) (f ∷ z) = map_cond (front_with q s) (room x (suc i))
      (add (suc i) (send t f) (set_link i z (set_state i (next t f) x)), hand t f)

  flat_hop : (l : Loop L) (i : ℕ) → hop_flat (flat l) i ≡ map flat_with (hop_at l i)
  flat_hop (tail q) i = refl
  flat_hop (cell [] s r) zero = refl
  flat_hop (cell (f ∷ q) s (tail z)) zero =
      map_map_cond flat_with (λ r'. (cell q (next s f) r', hand s f)) (ltb (length z) depth) (tail (z ++ send s f ∷ []))
  flat_hop (cell (f ∷ q) s (cell z t r)) zero = map_map_cond flat_with (λ r'. (cell q (next s f) r', hand s f))
      (ltb (length z) depth) (cell (z ++ send s f ∷ []) t r)
  flat_hop (cell q s r) (suc i) = hop_in_lem q s (flat r) i (get_elem? (states_of r) i) (link (flat r) i)
      ∙ ap (λ o. map (front_with q s) o) (flat_hop r i)
      ∙ map_swap (front_with q s) flat_with flat_with (cell_with q s) (λ p. refl) (hop_at r i)

  take_in : (q : List Frame) (s : State) (x : Flat L) (z : List Frame)
      → take_from (in_front q s x) z ≡ map (front_with q s) (take_from x z)
  take_in q s x [] = refl
  take_in q s x (f ∷ z) = refl

  flat_take : (l : Loop L) → take_flat (flat l) ≡ map flat_with (take_out l)
  flat_take (tail []) = refl
  flat_take (tail (f ∷ q)) = refl
  flat_take (cell q s r) = take_in q s (flat r) (link (flat r) (length (states_of r)))
      ∙ ap (λ o. map (front_with q s) o) (flat_take r)
      ∙ map_swap (front_with q s) flat_with flat_with (cell_with q s) (λ p. refl) (take_out r)

  call_in : (q : List Frame) (s : State) (x : Flat L) (i : ℕ) (c : Local) (o : Option State)
      → call_from (in_front q s x) (suc i) c o ≡ map (in_front q s) (call_from x i c o)
  call_in q s x i c none = refl
  call_in q s x i c (some t) = go (act t c)
    where
      go : (o : Option State)
          → map (λ s'. set_state (suc i) s' (in_front q s x)) o
          ≡ map (in_front q s) (map (λ s'. set_state i s' x) o)
      go none = refl
      go (some s') = refl

  flat_call : (l : Loop L) (i : ℕ) (c : Local) → call_flat (flat l) i c ≡ map (λ l'. flat l') (call_at l i c)
  flat_call (tail q) i c = refl
  flat_call (cell q s r) zero c = go (act s c)
    where
      go : (o : Option State)
          → map (λ s'. set_state 0 s' (flat (cell q s r))) o
          ≡ map (λ l'. flat l') (map (λ s'. cell q s' r) o)
      go none = refl
      go (some s') = refl
  flat_call (cell q s r) (suc i) c = call_in q s (flat r) i c (get_elem? (states_of r) i)
      ∙ ap (λ o. map (in_front q s) o) (flat_call r i c)
      ∙ map_swap (in_front q s) (λ l'. flat l') (λ l'. flat l') (λ r'. cell q s r') (λ l'. refl) (call_at r i c)

  flat_devices : (l : Loop L) → length (states_of l) ≡ devices l
  flat_devices (tail q) = refl
  flat_devices (cell q s r) = ap suc (flat_devices r)

  pub links_long : (l : Loop L) → length (links_of l) ≡ suc (devices l)
  links_long (tail q) = refl
  links_long (cell q s r) = ap suc (links_long r)

  push_accepts : (r : Loop L) (f : Frame) → accepts (push r f) ≡ room (flat r) 0
  push_accepts (tail q) f = cond_accepts (ltb (length q) depth) (tail (q ++ f ∷ []))
  push_accepts (cell q s r) f = cond_accepts (ltb (length q) depth) (cell (q ++ f ∷ []) s r)

  flat_can : (l : Loop L) (i : ℕ) → i < devices l → can_flat (flat l) i ≡ can_hop l i
  flat_can (tail q) i h = absurd (omega arith)
  flat_can (cell [] s r) zero h = refl
  flat_can (cell (f ∷ q) s r) zero h =
      sym (map_accepts (λ r'. (cell q (next s f) r', hand s f)) (push r (send s f)) ∙ push_accepts r (send s f))
  flat_can (cell q s r) (suc i) h = flat_can r i (omega arith) ∙ sym (map_accepts (cell_with q s) (hop_at r i))

  flat_highest : (l : Loop L) → highest_flat (flat l) ≡ highest l
  flat_highest l = rw (flat_devices l) (greatest_same (can_flat (flat l)) (can_hop l) (devices l) (flat_can l))

  flat_loop : (l : Loop L) → line_up (links_of l) (states_of l) ≡ l
  flat_loop (tail q) = refl
  flat_loop (cell q s r) = ap (λ (l : Loop L). cell q s l) (flat_loop r)

module _ (L : Line) where
  open L use {State, Frame}

  flat_rows : (ls : List (List Frame)) (ss : List State) → length ls ≡ suc (length ss)
      → ◌≡◌ {A = Flat L} (flat (line_up ls ss)) (record { links = ls; states = ss })
  flat_rows [] ss e = absurd (omega (arith, e))
  flat_rows (q ∷ []) [] e = refl
  flat_rows (q ∷ z ∷ ls) [] e = absurd (omega (arith, e))
  flat_rows (q ∷ ls) (s ∷ ss) e = ap (λ x. in_front q s x) (flat_rows ls ss (omega (arith, e)))

  pub same_flat : SameFlat L
  same_flat = record {
    same_put = flat_put;
    same_hop = flat_hop;
    same_take = flat_take;
    same_call = flat_call;
    same_highest = flat_highest;
    same_devices = flat_devices;
    same_loop = flat_loop;
    same_rows = λ x e. flat_rows x.links x.states e;
  }
