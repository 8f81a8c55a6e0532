-- Any flow that ends with empty links can be had frame by frame: the first device takes the oldest frame as its next
-- turn, and what it sends is, in the rest of the loop, again the next frame to go round.
use Prim.Native.Nat.{ℕ, zero, suc}
use native.Mathlib.Omega.{arith}
use mathlib.Core.Path.{◌≡◌, refl, sym, ◌∙◌, ap}
use mathlib.Core.Option
use mathlib.Core.Option.{Option, some}
use mathlib.Core.List.{List, [], ◌∷◌, ◌++◌, map, append-nil, append_assoc, map-append}
use lib.ListN.{length}
use Rattle.order.specs.Line.{Line, Loop, tail, cell, devices, hop_at}
use Rattle.order.specs.Line.{Call, put, take, Event, was_put, hopped, was_taken, called, reply, run}
use Rattle.order.specs.History.{Turn, hops, does, puts, turns, refusals}
use Rattle.order.specs.RightRound.{first, before, after, past, finish, right_round, onward, left_by, left_after}
use Rattle.order.specs.RightRound.{clear, one_by_one}
use Rattle.order.proofs.Streams.{Ran, stays, hopping, acting, Flows, at_tail, at_cell, same_devices}
use Rattle.order.proofs.Idle.{Empty, onto, push_onto}
use Rattle.order.proofs.Moves.{Acts, no_act, an_act, Moves, no_move, by_hop, by_take, moves_trans, one_more}
use Rattle.order.proofs.Moves.{moves_run, moves_puts, moves_refusals, shift, shift_e, in_front, acts_first}
use Rattle.order.proofs.Moves.{turns_next, turns_first, turns_acts, turns_skip, turns_append}
use Rattle.order.proofs.Moves.{past_next, finish_next, clear_next, first_after}

all_of : {A : Type 0} (q X xs q' : List A) → q ++ X ≡ xs ++ q' → q' ≡ [] → xs ≡ q ++ X
all_of q X xs q' e z' = cc (append-nil xs)

to_end : {A : Type 0} (X q : List A) → q ≡ [] → X ≡ X ++ q
to_end X q z = rw (z, append-nil)

-- what a row has from place 1 on
abbrev later : {A : Type 0} → (ℕ → A) → ℕ → A
later G k = G (suc k)

-- a row with x in front
abbrev glue : {A : Type 0} → List A → (ℕ → List A) → ℕ → List A
glue x G zero = x
glue x G (suc k) = G k

module _ {L : Line} where
  open L use {State, Frame, Local, Byte, next, send, hand}

  -- each device's turns after its next hop
  abbrev after_all : (ℕ → List (Turn L)) → ℕ → List (Turn L)
  after_all T k = after (T k)

  -- ---- One device and one frame

  -- the turns up to the first hop, by which f is taken
  record Peel (s : State) (ts : List (Turn L)) (f : Frame) (X : List Frame) (s' : State) (ys : List Frame)
      : Type 0 where
    s₁ : State
    ys₂ : List Frame
    hs₂ : List Byte
    acts : Acts L s (before ts) s₁
    ran : Ran (next s₁ f) (after ts) X s' ys₂ hs₂
    out : ys ≡ send s₁ f ∷ ys₂
    all : map does (before ts) ++ hops ∷ after ts ≡ ts

  peel : {s s' : State} {ts : List (Turn L)} {f : Frame} {X ys : List Frame} {hs : List Byte}
      → Ran s ts (f ∷ X) s' ys hs → Peel s ts f X s' ys
  peel (hopping a) = record { s₁ = _; ys₂ = _; hs₂ = _; acts = no_act; ran = a; out = refl; all = refl }
  peel (acting {c = c} e a) = let p = peel a in record {
    s₁ = p.s₁;
    ys₂ = p.ys₂;
    hs₂ = p.hs₂;
    acts = an_act e p.acts;
    ran = p.ran;
    out = p.out;
    all = ap (λ (x : List (Turn L)). does c ∷ x) p.all;
  }

  -- no frame is left: only local calls
  record Last (s : State) (ts : List (Turn L)) (s' : State) (ys : List Frame) : Type 0 where
    acts : Acts L s (before ts) s'
    out : ys ≡ []
    all : map does (before ts) ≡ ts

  last : {s s' : State} {ts : List (Turn L)} {ys : List Frame} {hs : List Byte} → Ran s ts [] s' ys hs → Last s ts s' ys
  last stays = record { acts = no_act; out = refl; all = refl }
  last (acting {c = c} e a) = let p = last a in
      record { acts = an_act e p.acts; out = p.out; all = ap (λ (x : List (Turn L)). does c ∷ x) p.all }

  -- ---- One frame right round

  -- the first link holds q, and the others nothing
  abbrev Front : List Frame → Loop L → Type 0
  Front q (tail q₁) = q₁ ≡ q
  Front q (cell q₁ s r) = (q₁ ≡ q) × Empty r

  front_empty : (l : Loop L) → Front [] l → Empty l
  front_empty (tail q) z = z
  front_empty (cell q s r) z = z

  -- The oldest frame of start goes past n devices and out. The first link then holds q, and X is still to come.
  record Row (T : ℕ → List (Turn L)) (n : ℕ) (q X : List Frame) (start l' : Loop L) : Type 0 where
    end : Loop L
    es : List (Event L)
    G₂ : ℕ → List Byte
    o₂ : List Frame
    shape : Front q end
    moves : Moves start (past 0 (first n T) ++ take ∷ []) es end
    flows : Flows (after_all T) G₂ o₂ X end l'
    turned : (k : ℕ) → turns es k ++ after (T k) ≡ T k

  tail_row : (T : ℕ → List (Turn L)) (f : Frame) (q X q' : List Frame) → ((k : ℕ) → T k ≡ []) → q' ≡ []
      → Row T 0 q X (tail (f ∷ q)) (tail q')
  tail_row T f q X q' t z' = record {
    end = tail q;
    es = was_taken f ∷ [];
    G₂ = λ k. [];
    o₂ = q ++ X;
    shape = refl;
    moves = by_take refl no_move;
    flows = at_tail (λ k. ap (λ ts. after ts) (t k)) (λ k. refl) (to_end (q ++ X) q' z');
    turned = λ k. rw (t k);
  }

  cell_row : (T : ℕ → List (Turn L)) (n : ℕ) (q X q' : List Frame) (s s' : State) (r r' : Loop L) (f : Frame)
      (ys : List Frame) (p : Peel s (T 0) f (q ++ X) s' ys)
      → Row (later T) n [] p.ys₂ (onto r (send p.s₁ f)) r' → Empty r → q' ≡ []
      → Row T (suc n) q X (cell (f ∷ q) s r) (cell q' s' r')
  cell_row T n q X q' s s' r r' f ys p w zr z' = record {
    end = cell q (next p.s₁ f) w.end;
    es = map (called 0) (before (T 0)) ++ es;
    G₂ = glue p.hs₂ w.G₂;
    o₂ = w.o₂;
    shape = (refl, front_empty w.end w.shape);
    moves = rw (append_assoc, past_next 0 (first n (later T))) (acts_first p.acts (by_hop 0 hop_on_lem moves));
    flows = at_cell (q ++ X) p.ys₂ (to_end (q ++ X) q' z') p.ran w.flows;
    turned = turned;
  }
    where
      es : List (Event L)
      es = hopped 0 (hand p.s₁ f) ∷ map shift_e w.es

      l₁ : Loop L
      l₁ = cell q (next p.s₁ f) (onto r (send p.s₁ f))

      hop_on_lem : hop_at (cell (f ∷ q) p.s₁ r) 0 ≡ some (l₁, hand p.s₁ f)
      hop_on_lem = ap (λ (o : Option (Loop L)). Option.map (λ r₁. (cell q (next p.s₁ f) r₁, hand p.s₁ f)) o)
          (push_onto r (send p.s₁ f) zr)

      moves : Moves l₁ (map shift (past 0 (first n (later T))) ++ take ∷ []) (map shift_e w.es)
          (cell q (next p.s₁ f) w.end)
      moves = rw (map-append shift) at (in_front q (next p.s₁ f) w.moves)

      turned : (k : ℕ) → turns (map (called 0) (before (T 0)) ++ es) k ++ after (T k) ≡ T k
      turned zero = rw (turns_acts (before (T 0)) es, turns_first w.es, append_assoc) p.all
      turned (suc k) = rw (turns_skip k (before (T 0)) es, turns_next k w.es) (w.turned k)

  -- f is the next frame to come into l
  row : {T : ℕ → List (Turn L)} {G : ℕ → List Byte} {o Y : List Frame} {l l' : Loop L} (f : Frame) (X : List Frame)
      → Flows T G o Y l l' → Y ≡ f ∷ X → Empty l → Empty l' → Row T (devices l) [] X (onto l f) l'
  row f X (at_tail {T = T} {q' = q'} t g e) y z z' = tail_row T f [] X q' t z'
  row f X (at_cell {T = T} {X = Y} {q = q} {q' = q'} {s = s} {s' = s'} {r = r} {r' = r'} xs ys e a k) y z z' =
      let u : xs ≡ f ∷ X = all_of q Y xs q' e z'.0 ∙ rw z.0 y in
      let p : Peel s (T 0) f X s' ys = peel (rw u at a) in
      let w = row (send p.s₁ f) p.ys₂ k p.out z.1 z'.1 in
      cell_row T (devices r) [] X q' s s' r r' f ys p w z.1 z'.0

  -- f is the oldest frame of the first link of l
  front_row : {T : ℕ → List (Turn L)} {G : ℕ → List Byte} {o X : List Frame} {l l' : Loop L} (f : Frame)
      (q : List Frame) → Flows T G o X l l' → Front (f ∷ q) l → Empty l' → Row T (devices l) q X l l'
  front_row f q (at_tail {T = T} {X = X} {q = q₁} {q' = q'} t g e) z z' = rw z (tail_row T f q X q' t z')
  front_row f q (at_cell {T = T} {X = X} {q = q₁} {q' = q'} {s = s} {s' = s'} {r = r} {r' = r'} xs ys e a k) z z' =
      let u : xs ≡ f ∷ (q ++ X) = all_of q₁ X xs q' e z'.0 ∙ rw z.0 refl in
      let p : Peel s (T 0) f (q ++ X) s' ys = peel (rw u at a) in
      let w = row (send p.s₁ f) p.ys₂ k p.out z.1 z'.1 in
      rw z.0 (cell_row T (devices r) q X q' s s' r r' f ys p w z.1 z'.0)

  -- ---- The local calls after the last hop

  record Trail (T : ℕ → List (Turn L)) (l l' : Loop L) : Type 0 where
    es : List (Event L)
    moves : Moves l (finish 0 (first (devices l) T)) es l'
    turned : (k : ℕ) → turns es k ≡ T k

  cell_trail : (T : ℕ → List (Turn L)) (q q' : List Frame) (s s' : State) (r r' : Loop L) (ys : List Frame)
      → Last s (T 0) s' ys → Trail (later T) r r' → q ≡ q' → Trail T (cell q s r) (cell q' s' r')
  cell_trail T q q' s s' r r' ys p w z = record {
    es = map (called 0) (before (T 0)) ++ map shift_e w.es;
    moves =
        rw (z, finish_next 0 (first (devices r) (later T))) (acts_first p.acts (in_front q' s' w.moves));
    turned = turned;
  }
    where
      turned : (k : ℕ) → turns (map (called 0) (before (T 0)) ++ map shift_e w.es) k ≡ T k
      turned zero = rw (turns_acts (before (T 0)) (map shift_e w.es), turns_first w.es, append-nil) p.all
      turned (suc k) = rw (turns_skip k (before (T 0)) (map shift_e w.es), turns_next k w.es) (w.turned k)

  trail : {T : ℕ → List (Turn L)} {G : ℕ → List Byte} {o Y : List Frame} {l l' : Loop L}
      → Flows T G o Y l l' → Y ≡ [] → Empty l → Empty l' → Trail T l l'
  trail (at_tail {T = T} {q = q} {q' = q'} t g e) y z z' =
      record { es = []; moves = rw (z, z') no_move; turned = λ k. sym (t k) }
  trail (at_cell {T = T} {X = Y} {q = q} {q' = q'} {s = s} {s' = s'} {r = r} {r' = r'} xs ys e a k) y z z' =
      let u : xs ≡ [] = all_of q Y xs q' e z'.0 ∙ rw z.0 y in
      let p : Last s (T 0) s' ys = last (rw u at a) in
      cell_trail T q q' s s' r r' ys p (trail k p.out z.1 z'.1) (z.0 ∙ sym z'.0)

  -- ---- Every frame right round

  -- The calls take l to l', none of them refused, put X and give the turns T.
  pub record Reference (T : ℕ → List (Turn L)) (X : List Frame) (calls : List (Call L)) (l l' : Loop L) : Type 0 where
    pub es : List (Event L)
    pub ran : run l calls ≡ (l', es)
    pub accepted : refusals es ≡ 0
    pub same_puts : puts es ≡ X
    pub same_turns : (k : ℕ) → turns es k ≡ T k

  -- some moves, and then the rest
  moves_then : (T T₂ : ℕ → List (Turn L)) (X : List Frame) {cs : List (Call L)} (ds : List (Call L))
      {es : List (Event L)} {l l₁ l' : Loop L} → Moves l cs es l₁ → ((k : ℕ) → turns es k ++ T₂ k ≡ T k)
      → Reference T₂ X ds l₁ l' → Reference T X (cs ++ ds) l l'
  moves_then T T₂ X ds {es = es} m t v = record {
    es = es ++ v.es;
    ran = moves_run ds v.es m v.ran;
    accepted = moves_refusals v.es m ∙ v.accepted;
    same_puts = moves_puts v.es m ∙ v.same_puts;
    same_turns = λ k. turns_append es v.es k ∙ rw (v.same_turns k) (t k);
  }

  put_then : (T : ℕ → List (Turn L)) (f : Frame) (X : List Frame) (ds : List (Call L)) (l l' : Loop L) → Empty l
      → Reference T X ds (onto l f) l' → Reference T (f ∷ X) (put f ∷ ds) l l'
  put_then T f X ds l l' z v = record {
    es = was_put f ∷ v.es;
    ran = one_more l (onto l f) l' (put f) ds (was_put f) v.es
        (ap (λ (o : Option (Loop L)). reply l (Option.map (λ l'. (l', was_put f)) o)) (push_onto l f z)) v.ran;
    accepted = omega (arith, v.accepted);
    same_puts = ap (λ (x : List Frame). f ∷ x) v.same_puts;
    same_turns = v.same_turns;
  }

  nothing : (T : ℕ → List (Turn L)) (l : Loop L) → ((k : ℕ) → T k ≡ []) → Reference T [] [] l l
  nothing T l t = record { es = []; ran = refl; accepted = refl; same_puts = refl; same_turns = λ k. sym (t k) }

  -- a frame right round, and then the rest
  row_then : (T : ℕ → List (Turn L)) (n : ℕ) (q X Y : List Frame) (start l' : Loop L) (w : Row T n q X start l')
      (ds : List (List (Turn L)) → List (Call L))
      → Reference (after_all T) Y (ds (first n (after_all T))) w.end l'
      → Reference T Y (past 0 (first n T) ++ take ∷ ds (map after (first n T))) start l'
  row_then T n q X Y start l' w ds v = rw (first_after n T)
      (rw append_assoc at (moves_then T (after_all T) Y (ds (first n (after_all T))) w.moves w.turned v))

  rounds : {T : ℕ → List (Turn L)} {G : ℕ → List Byte} {o : List Frame} {l l' : Loop L} (X : List Frame)
      → Flows T G o X l l' → Empty l → Empty l' → Reference T X (right_round X (first (devices l) T)) l l'
  rounds {T = T} {l = l} {l' = l'} [] k z z' = let w = trail k refl z z' in
      rw append-nil at
      (moves_then T (λ k. []) [] [] w.moves (λ k. append-nil _ ∙ w.turned k) (nothing (λ k. []) l' (λ k. refl)))
  rounds {T = T} {l = l} {l' = l'} (f ∷ X) k z z' =
      let w = row f X k refl z z' in
      let n : devices w.end ≡ devices l = same_devices w.flows ∙ sym (same_devices k) in
      let v = rounds {T = after_all T} X w.flows (front_empty w.end w.shape) z' in
      put_then T f X _ l l' z (row_then T (devices l) [] X X (onto l f) l' w (λ ts. right_round X ts) (rw n at v))

  -- ---- The frames in the links first

  -- The calls cs take l, whose links hold frames, to an empty loop. X is still to come, and ls are the turns left.
  record Sent (T : ℕ → List (Turn L)) (n : ℕ) (X : List Frame) (cs : List (Call L)) (ls : List (List (Turn L)))
      (l l' : Loop L) : Type 0 where
    end : Loop L
    es : List (Event L)
    T₂ : ℕ → List (Turn L)
    G₂ : ℕ → List Byte
    o₂ : List Frame
    empty : Empty end
    left_is : ls ≡ first n T₂
    moves : Moves l cs es end
    flows : Flows T₂ G₂ o₂ X end l'
    turned : (k : ℕ) → turns es k ++ T₂ k ≡ T k

  then_sent : {T T₁ : ℕ → List (Turn L)} {n : ℕ} {X : List Frame} {cs ds : List (Call L)} {ls : List (List (Turn L))}
      {l l₁ l' : Loop L} {es : List (Event L)} → Moves l cs es l₁ → ((k : ℕ) → turns es k ++ T₁ k ≡ T k)
      → Sent T₁ n X ds ls l₁ l' → Sent T n X (cs ++ ds) ls l l'
  then_sent {es = es} m t v = record {
    end = v.end;
    es = es ++ v.es;
    T₂ = v.T₂;
    G₂ = v.G₂;
    o₂ = v.o₂;
    empty = v.empty;
    left_is = v.left_is;
    moves = moves_trans m v.moves;
    flows = v.flows;
    turned = λ k. rw (turns_append es v.es k, append_assoc, v.turned k) (t k);
  }

  -- n devices with the turns T have let m frames of the first link through
  abbrev SentOn : (ℕ → List (Turn L)) → ℕ → ℕ → List Frame → Loop L → Loop L → Type 0
  SentOn T n m X l l' = Sent T n X (onward 0 m (first n T)) (left_by m (first n T)) l l'

  row_sent : (T : ℕ → List (Turn L)) (n m : ℕ) (q X : List Frame) (l l' : Loop L) (w : Row T n q X l l')
      → SentOn (after_all T) n m X w.end l' → SentOn T n (suc m) X l l'
  row_sent T n m q X l l' w v =
      rw (first_after n T) (rw append_assoc at (then_sent {T = T} {T₁ = after_all T} w.moves w.turned v))

  -- the frames of the first link
  sends : (T : ℕ → List (Turn L)) (G : ℕ → List Byte) (o X : List Frame) (n : ℕ) (l l' : Loop L) (q : List Frame)
      → Flows T G o X l l' → devices l ≡ n → Front q l → Empty l' → SentOn T n (length q) X l l'
  sends T G o X n l l' [] k d z z' = record {
    end = l;
    es = [];
    T₂ = T;
    G₂ = G;
    o₂ = o;
    empty = front_empty l z;
    left_is = refl;
    moves = no_move;
    flows = k;
    turned = λ k. refl;
  }
  sends T G o X n l l' (f ∷ q) k d z z' =
      let w : Row T n q X l l' = rw d at (front_row f q k z z') in
      let n' = same_devices w.flows ∙ sym (same_devices k) ∙ d in
      row_sent T n (length q) q X l l' w
      (sends (after_all T) w.G₂ w.o₂ X n w.end l' q w.flows n' w.shape z')

  left_nil : (n : ℕ) → left_by {L = L} n [] ≡ []
  left_nil zero = refl
  left_nil (suc n) = left_nil n

  -- l, with the turns T, has let all its frames out
  abbrev SentAll : (ℕ → List (Turn L)) → ℕ → List Frame → Loop L → Loop L → Type 0
  SentAll T n X l l' = Sent T n X (clear 0 l (first n T)) (left_after l (first n T)) l l'

  cell_sent : (T : ℕ → List (Turn L)) (G : ℕ → List Byte) {o : List Frame} (X xs ys q q' : List Frame) (n : ℕ)
      (s s' : State) (r r' : Loop L) → q ++ X ≡ xs ++ q' → Ran s (T 0) xs s' ys (G 0) → devices r ≡ n
      → Empty (cell q' s' r') → Flows (later T) (later G) o ys r r' → SentAll (later T) n ys r r'
      → SentAll T (suc n) X (cell q s r) (cell q' s' r')
  cell_sent T G X xs ys q q' n s s' r r' e a d z' k v =
      let T₁ : ℕ → List (Turn L) = glue (T 0) v.T₂ in
      let G₁ : ℕ → List Byte = glue (G 0) v.G₂ in
      let flow : Flows T₁ G₁ v.o₂ X (cell q s v.end) (cell q' s' r') = at_cell xs ys e a v.flows in
      let n' = ap suc (same_devices v.flows ∙ sym (same_devices k) ∙ d) in
      let u = sends T₁ G₁ v.o₂ X (suc n) _ _ q flow n' (refl, v.empty) z' in
      rw (clear_next 0 r (first n (later T)), v.left_is)
      (then_sent {T = T} {T₁ = T₁} (in_front q s v.moves) turned u)
    where
      turned : (k : ℕ) → turns (map shift_e v.es) k ++ glue (T 0) v.T₂ k ≡ T k
      turned zero = rw (turns_first v.es)
      turned (suc k) = rw (turns_next k v.es) (v.turned k)

  -- the frames of all links
  clears : {T : ℕ → List (Turn L)} {G : ℕ → List Byte} {o X : List Frame} {l l' : Loop L} → Flows T G o X l l'
      → Empty l' → SentAll T (devices l) X l l'
  clears (at_tail {T = T} {G = G} {o = o} {X = X} {q = q} {q' = q'} t g e) z' =
      rw left_nil at (sends T G o X 0 (tail q) (tail q') q (at_tail t g e) refl refl z')
  clears (at_cell {T = T} {G = G} {X = X} {q = q} {q' = q'} {s = s} {s' = s'} {r = r} {r' = r'} xs ys e a k) z' =
      cell_sent T G X xs ys q q' (devices r) s s' r r' e a refl z' k (clears k z'.1)

  -- the frames in the links, and then the frames put
  pub all_rounds : {T : ℕ → List (Turn L)} {G : ℕ → List Byte} {o X : List Frame} {l l' : Loop L} → Flows T G o X l l'
      → Empty l' → Reference T X (one_by_one l X (first (devices l) T)) l l'
  all_rounds {T = T} {X = X} {l = l} {l' = l'} k z' =
      let w = clears k z' in
      let n : devices w.end ≡ devices l = same_devices w.flows ∙ sym (same_devices k) in
      rw w.left_is (moves_then T w.T₂ X _ w.moves w.turned (rw n at (rounds X w.flows w.empty z')))
