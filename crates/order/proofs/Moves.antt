-- Accepted calls, one after the other: what they make of a run, the turns that they give, and the same calls in a loop
-- with one more device in front, where they are the same calls with every device's number one greater.
use Prim.Native.Nat.{ℕ, zero, suc}
use native.Mathlib.Omega.{arith}
use mathlib.Core.Path.{◌≡◌, refl, ap, ap₂}
use mathlib.Core.Option
use mathlib.Core.Option.{Option, some}
use mathlib.Core.List.{List, [], ◌∷◌, ◌++◌, map, append_assoc, map-append}
use lib.ListN.{length}
use Rattle.order.specs.Line.{Line, Loop, tail, cell, hop_at, take_out, call_at}
use Rattle.order.specs.Line.{Call, put, hop, take, local, drain, Event, refused, was_put, hopped, was_taken}
use Rattle.order.specs.Line.{called}
use Rattle.order.specs.Line.{reply, answer, run}
use Rattle.order.specs.History.{Turn, does, turn_by, puts, turns, refusals}
use Rattle.order.specs.RightRound.{first, before, after, makes, past, finish, onward, left_after, clear}

module _ (L : Line) where
  open L use {State, Local, act}

  -- a device goes from s to s' by the local calls cs
  pub data Acts : State → List Local → State → Type 0 where
    no_act : {s : State} → Acts s [] s
    an_act : {s s₁ s' : State} {c : Local} {cs : List Local} → act s c ≡ some s₁ → Acts s₁ cs s' → Acts s (c ∷ cs) s'

module _ {L : Line} where
  open L use {State, Frame, Local, Byte, act}

  -- A loop goes from l to l' by the calls cs, of which none is refused, and es happens.
  pub data Moves : Loop L → List (Call L) → List (Event L) → Loop L → Type 0 where
    no_move : {l : Loop L} → Moves l [] [] l
    by_hop : {l l₁ l' : Loop L} {h : Option Byte} {cs : List (Call L)} {es : List (Event L)} (i : ℕ)
        → hop_at l i ≡ some (l₁, h) → Moves l₁ cs es l' → Moves l (hop i ∷ cs) (hopped i h ∷ es) l'
    by_take : {l l₁ l' : Loop L} {f : Frame} {cs : List (Call L)} {es : List (Event L)}
        → take_out l ≡ some (l₁, f) → Moves l₁ cs es l' → Moves l (take ∷ cs) (was_taken f ∷ es) l'
    by_call : {l l₁ l' : Loop L} {cs : List (Call L)} {es : List (Event L)} (i : ℕ) (c : Local)
        → call_at l i c ≡ some l₁ → Moves l₁ cs es l' → Moves l (local i c ∷ cs) (called i c ∷ es) l'

  pub moves_trans : {l l₁ l' : Loop L} {cs ds : List (Call L)} {es fs : List (Event L)}
      → Moves l cs es l₁ → Moves l₁ ds fs l' → Moves l (cs ++ ds) (es ++ fs) l'
  moves_trans no_move b = b
  moves_trans (by_hop i e a) b = by_hop i e (moves_trans a b)
  moves_trans (by_take e a) b = by_take e (moves_trans a b)
  moves_trans (by_call i c e a) b = by_call i c e (moves_trans a b)

  -- ---- They are a run

  pub one_more : (l l₁ l' : Loop L) (c : Call L) (cs : List (Call L)) (e : Event L) (es : List (Event L))
      → answer l c ≡ (l₁, e ∷ []) → run l₁ cs ≡ (l', es) → run l (c ∷ cs) ≡ (l', e ∷ es)
  one_more l l₁ l' c cs e es h h' = rw (h, h')

  pub hop_answer : {l₁ : Loop L} {h : Option Byte} (l : Loop L) (i : ℕ) → hop_at l i ≡ some (l₁, h)
      → answer l (hop i) ≡ (l₁, hopped i h ∷ [])
  hop_answer l i e = ap (λ (o : Option (Loop L × Option Byte)). reply l (Option.map (λ p. (p.0, hopped i p.1)) o)) e

  take_answer : {l₁ : Loop L} {f : Frame} (l : Loop L) → take_out l ≡ some (l₁, f)
      → answer l take ≡ (l₁, was_taken f ∷ [])
  take_answer l e = ap (λ (o : Option (Loop L × Frame)). reply l (Option.map (λ p. (p.0, was_taken p.1)) o)) e

  call_answer : {l₁ : Loop L} (l : Loop L) (i : ℕ) (c : Local) → call_at l i c ≡ some l₁
      → answer l (local i c) ≡ (l₁, called i c ∷ [])
  call_answer l i c e = ap (λ (o : Option (Loop L)). reply l (Option.map (λ l'. (l', called i c)) o)) e

  pub moves_run : {l l' l'' : Loop L} {cs : List (Call L)} {es : List (Event L)} (ds : List (Call L))
      (fs : List (Event L)) → Moves l cs es l' → run l' ds ≡ (l'', fs) → run l (cs ++ ds) ≡ (l'', es ++ fs)
  moves_run ds fs no_move u = u
  moves_run {l = l} ds fs (by_hop {h = h} {cs = cs} i e m) u =
      one_more l _ _ (hop i) (cs ++ ds) (hopped i h) _ (hop_answer l i e) (moves_run ds fs m u)
  moves_run {l = l} ds fs (by_take {f = f} {cs = cs} e m) u =
      one_more l _ _ take (cs ++ ds) (was_taken f) _ (take_answer l e) (moves_run ds fs m u)
  moves_run {l = l} ds fs (by_call {cs = cs} i c e m) u =
      one_more l _ _ (local i c) (cs ++ ds) (called i c) _ (call_answer l i c e) (moves_run ds fs m u)

  pub moves_puts : {l l' : Loop L} {cs : List (Call L)} {es : List (Event L)} (fs : List (Event L))
      → Moves l cs es l' → puts (es ++ fs) ≡ puts fs
  moves_puts fs no_move = refl
  moves_puts fs (by_hop i e m) = moves_puts fs m
  moves_puts fs (by_take e m) = moves_puts fs m
  moves_puts fs (by_call i c e m) = moves_puts fs m

  pub moves_refusals : {l l' : Loop L} {cs : List (Call L)} {es : List (Event L)} (fs : List (Event L))
      → Moves l cs es l' → refusals (es ++ fs) ≡ refusals fs
  moves_refusals fs no_move = refl
  moves_refusals fs (by_hop i e m) = omega (arith, moves_refusals fs m)
  moves_refusals fs (by_take e m) = omega (arith, moves_refusals fs m)
  moves_refusals fs (by_call i c e m) = omega (arith, moves_refusals fs m)

  -- ---- One more device in front

  abbrev pub shift : Call L → Call L
  shift (put f) = put f
  shift (hop i) = hop (suc i)
  shift take = take
  shift (local i c) = local (suc i) c
  shift (drain b) = drain b

  abbrev pub shift_e : Event L → Event L
  shift_e refused = refused
  shift_e (was_put f) = was_put f
  shift_e (hopped i h) = hopped (suc i) h
  shift_e (was_taken f) = was_taken f
  shift_e (called i c) = called (suc i) c

  pub in_front : (q : List Frame) (s : State) {r r' : Loop L} {cs : List (Call L)} {es : List (Event L)}
      → Moves r cs es r' → Moves (cell q s r) (map shift cs) (map shift_e es) (cell q s r')
  in_front q s no_move = no_move
  in_front q s (by_hop i e m) = by_hop (suc i)
      (ap (λ (o : Option (Loop L × Option Byte)). Option.map (λ p. (cell q s p.0, p.1)) o) e) (in_front q s m)
  in_front q s (by_take e m) =
      by_take (ap (λ (o : Option (Loop L × Frame)). Option.map (λ p. (cell q s p.0, p.1)) o) e) (in_front q s m)
  in_front q s (by_call i c e m) =
      by_call (suc i) c (ap (λ (o : Option (Loop L)). Option.map (λ r₁. cell q s r₁) o) e) (in_front q s m)

  -- local calls of the device in front, before all else
  pub acts_first : {q : List Frame} {s s₁ : State} {r l' : Loop L} {cl : List Local} {cs : List (Call L)}
      {es : List (Event L)} → Acts L s cl s₁ → Moves (cell q s₁ r) cs es l'
      → Moves (cell q s r) (makes 0 cl ++ cs) (map (called 0) cl ++ es) l'
  acts_first no_act m = m
  acts_first {q = q} {r = r} (an_act {c = c} e a) m =
      by_call 0 c (ap (λ (o : Option State). Option.map (λ s'. cell q s' r) o) e) (acts_first a m)

  -- ---- The turns that they give

  turn_next : (k : ℕ) (e : Event L) → turn_by (suc k) (shift_e e) ≡ turn_by k e
  turn_next k refused = refl
  turn_next k (was_put f) = refl
  turn_next k (hopped i h) = refl
  turn_next k (was_taken f) = refl
  turn_next k (called i c) = refl

  turn_first : (e : Event L) → turn_by 0 (shift_e e) ≡ []
  turn_first refused = refl
  turn_first (was_put f) = refl
  turn_first (hopped i h) = refl
  turn_first (was_taken f) = refl
  turn_first (called i c) = refl

  pub turns_next : (k : ℕ) (es : List (Event L)) → turns (map shift_e es) (suc k) ≡ turns es k
  turns_next k [] = refl
  turns_next k (e ∷ es) = ap₂ (λ (a b : List (Turn L)). a ++ b) (turn_next k e) (turns_next k es)

  pub turns_first : (es : List (Event L)) → turns (map shift_e es) 0 ≡ []
  turns_first [] = refl
  turns_first (e ∷ es) = ap₂ (λ (a b : List (Turn L)). a ++ b) (turn_first e) (turns_first es)

  pub turns_acts : (cl : List Local) (es : List (Event L))
      → turns (map (called 0) cl ++ es) 0 ≡ map does cl ++ turns es 0
  turns_acts [] es = refl
  turns_acts (c ∷ cl) es = ap (λ (x : List (Turn L)). does c ∷ x) (turns_acts cl es)

  pub turns_skip : (k : ℕ) (cl : List Local) (es : List (Event L))
      → turns (map (called 0) cl ++ es) (suc k) ≡ turns es (suc k)
  turns_skip k [] es = refl
  turns_skip k (c ∷ cl) es = turns_skip k cl es

  pub turns_append : (es fs : List (Event L)) (k : ℕ) → turns (es ++ fs) k ≡ turns es k ++ turns fs k
  turns_append [] fs k = refl
  turns_append (e ∷ es) fs k = rw (turns_append es fs k, append_assoc)

  -- ---- The calls of RightRound.antt, with every number one greater

  makes_next : (i : ℕ) (cs : List Local) → makes {L = L} (suc i) cs ≡ map shift (makes i cs)
  makes_next i [] = refl
  makes_next i (c ∷ cs) = ap (λ (x : List (Call L)). local (suc i) c ∷ x) (makes_next i cs)

  pub past_next : (i : ℕ) (ts : List (List (Turn L))) → past (suc i) ts ≡ map shift (past i ts)
  past_next i [] = refl
  past_next i (t ∷ ts) = simp (map-append shift, makes_next i (before t), past_next (suc i) ts)

  pub finish_next : (i : ℕ) (ts : List (List (Turn L))) → finish (suc i) ts ≡ map shift (finish i ts)
  finish_next i [] = refl
  finish_next i (t ∷ ts) = simp (map-append shift, makes_next i (before t), finish_next (suc i) ts)

  onward_next : (i n : ℕ) (ts : List (List (Turn L))) → onward (suc i) n ts ≡ map shift (onward i n ts)
  onward_next i zero ts = refl
  onward_next i (suc n) ts = simp (map-append shift, past_next i ts, onward_next i n (map after ts))

  pub clear_next : (i : ℕ) (l : Loop L) (ts : List (List (Turn L))) → clear (suc i) l ts ≡ map shift (clear i l ts)
  clear_next i (tail q) ts = onward_next i (length q) []
  clear_next i (cell q s r) [] = refl
  clear_next i (cell q s r) (t ∷ ts) =
      simp (map-append shift, clear_next (suc i) r ts, onward_next i (length q) (t ∷ left_after r ts))

  pub first_after : (n : ℕ) (T : ℕ → List (Turn L)) → map after (first n T) ≡ first n (λ k. after (T k))
  first_after zero T = refl
  first_after (suc n) T = ap (λ (x : List (List (Turn L))). after (T 0) ∷ x) (first_after n (λ k. T (suc k)))
