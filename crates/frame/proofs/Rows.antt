-- The message table is in order, by one computed test. So a lookup finds a row just where the frame is one of the row's
-- codes: the rows before it end below its codes, and those after it start above.
use Prim.Native.Nat.{ℕ, suc, ◌+◌, ◌-◌, ◌≤◌, ◌<◌}
use mathlib.Core.Path.{◌≡◌, refl, sym}
use mathlib.Core.List.{List, [], ◌∷◌}
use mathlib.Core.Bool.{Bool, true, false, cond, ◌&&◌}
use native.Mathlib.Omega.{arith}
use lib.Dec.{T, leb, eqb, leb→le, eqb→eq}
use mir.Facts.{and_yes}
use borrow.Author.Tests.{leb-true, le-leb, lt-leb, eqb-true, eqb-false, eq-eqb, ne_eqb}
use Rattle.frame.specs.Messages.{frames, kinds, Row, messages, within, lookup, kind_at}
use Rattle.frame.specs.Messages.{first_in, codes_in, first_of, codes_of}
use Rattle.frame.specs.Laws.{InOrder, TableInOrder, Listed, WithinKind}

ordered : ℕ → ℕ → List Row → Bool
ordered n a [] = eqb n kinds && leb a frames
ordered n a (r ∷ rs) =
    eqb r.kind n && (leb a r.first && (leb r.first r.last && ordered (suc n) (suc r.last) rs))

tested : (n a : ℕ) (rs : List Row) → T (ordered n a rs) → InOrder n a rs
unfolding ordered
tested n a [] t = let p = and_yes (eqb n kinds) (leb a frames) t in (eqb→eq _ _ p.0, leb→le _ _ p.1)
tested n a (r ∷ rs) t =
    let more = ordered (suc n) (suc r.last) rs in
    let p = and_yes (eqb r.kind n) (leb a r.first && (leb r.first r.last && more)) t in
    let q = and_yes (leb a r.first) (leb r.first r.last && more) p.1 in
    let s = and_yes (leb r.first r.last) more q.1 in
    (eqb→eq _ _ p.0, leb→le _ _ q.0, leb→le _ _ s.0, tested (suc n) (suc r.last) rs s.1)

pub in_order : TableInOrder
unfolding ordered messages
in_order = tested 1 0 messages tt

ends : (n a : ℕ) (rs : List Row) → InOrder n a rs → (n ≤ kinds) × (a ≤ frames)
ends n a [] h = (omega arith, h.1)
ends n a (r ∷ rs) h = let p = ends (suc n) (suc r.last) rs h.3 in (omega arith, omega arith)

-- What a row that has offset o of kind k tells of the rows from kind n and code a on
record Code (n a : ℕ) (rs : List Row) (k o : ℕ) : Type 0 where
  listed : (n ≤ k) × (k < kinds)
  placed : (a ≤ first_in rs k) × (first_in rs k + o < frames)
  found : lookup rs (first_in rs k + o) ≡ k

module _ (n a : ℕ) (r : Row) (rs : List Row) (h : InOrder n a (r ∷ rs)) (k : ℕ) where
  code_here : (o : ℕ) → r.kind ≡ k → o < r.last + 1 - r.first → Code n a (r ∷ rs) k o
  unfolding lookup within first_in codes_in
  code_here o e i =
      let p = ends (suc n) (suc r.last) rs h.3 in
      let first : first_in (r ∷ rs) k ≡ r.first = rw (eq-eqb r.kind k e) in
      let hit : lookup (r ∷ rs) (r.first + o) ≡ k =
      rw (le-leb r.first (r.first + o) (omega arith), le-leb (r.first + o) r.last (omega arith)) e in
      record { listed = (omega arith, omega arith); placed = (omega arith, omega arith); found = rw first hit }

  code_later : (o : ℕ) → Code (suc n) (suc r.last) rs k o → Code n a (r ∷ rs) k o
  unfolding lookup within first_in codes_in
  code_later o c =
      let first : first_in (r ∷ rs) k ≡ first_in rs k = rw (ne_eqb r.kind k (omega arith)) in
      let past : lookup (r ∷ rs) (first_in rs k + o) ≡ k =
      rw (le-leb r.first (first_in rs k + o) (omega arith), lt-leb (first_in rs k + o) r.last (omega arith))
      c.found in
      record { listed = (omega arith, c.listed.1); placed = (omega arith, omega arith); found = rw first past }

code : (n a : ℕ) (rs : List Row) → InOrder n a rs → (k o : ℕ) → o < codes_in rs k → Code n a rs k o
unfolding codes_in
code n a [] h k o i = omega arith
code n a (r ∷ rs) h k o i = split (eqb r.kind k) refl (code (suc n) (suc r.last) rs h.3 k o) i
  where
    split : (t : Bool) → eqb r.kind k ≡ t → (o < codes_in rs k → Code (suc n) (suc r.last) rs k o) →
        o < cond t (r.last + 1 - r.first) (codes_in rs k) → Code n a (r ∷ rs) k o
    split true e later i = code_here n a r rs h k o (eqb-true _ _ e) i
    split false e later i = code_later n a r rs h k o (later i)

-- A frame of a kind among rows from kind n and code a on
record Held (n a : ℕ) (rs : List Row) (f k : ℕ) : Type 0 where
  above : (n ≤ k) × (a ≤ f)
  inside : (first_in rs k ≤ f) × (f < first_in rs k + codes_in rs k)

module _ (n a : ℕ) (r : Row) (rs : List Row) (h : InOrder n a (r ∷ rs)) (f k : ℕ) where
  held_here : r.first ≤ f → f ≤ r.last → r.kind ≡ k → Held n a (r ∷ rs) f k
  unfolding first_in codes_in
  held_here i j e =
      let first : first_in (r ∷ rs) k ≡ r.first = rw (eq-eqb r.kind k e) in
      let codes : codes_in (r ∷ rs) k ≡ r.last + 1 - r.first = rw (eq-eqb r.kind k e) in
      record { above = (omega arith, omega arith); inside = (omega arith, omega arith) }

  held_later : Held (suc n) (suc r.last) rs f k → Held n a (r ∷ rs) f k
  unfolding first_in codes_in
  held_later c =
      let first : first_in (r ∷ rs) k ≡ first_in rs k = rw (ne_eqb r.kind k (omega arith)) in
      let codes : codes_in (r ∷ rs) k ≡ codes_in rs k = rw (ne_eqb r.kind k (omega arith)) in
      record { above = (omega arith, omega arith); inside = (omega arith, omega arith) }

held : (n a : ℕ) (rs : List Row) → InOrder n a rs → (f k : ℕ) → lookup rs f ≡ k → 0 < k → Held n a rs f k
unfolding lookup within
held n a [] h f k e i = omega arith
held n a (r ∷ rs) h f k e i =
    split (leb r.first f) (leb f r.last) refl refl
    (λ e. held_later n a r rs h f k (held (suc n) (suc r.last) rs h.3 f k e i)) e
  where
    split : (s t : Bool) → leb r.first f ≡ s → leb f r.last ≡ t → (lookup rs f ≡ k → Held n a (r ∷ rs) f k) →
        cond (s && t) r.kind (lookup rs f) ≡ k → Held n a (r ∷ rs) f k
    split true true p q later e = held_here n a r rs h f k (leb-true _ _ p) (leb-true _ _ q) e
    split true false p q later e = later e
    split false t p q later e = later e

pub within_kind : WithinKind
unfolding kind_at first_of codes_of
within_kind f k e i = (held 1 0 messages in_order f k e i).inside

-- Offset o of kind k is a frame of kind k
pub coded : (k o : ℕ) → o < codes_of k → (first_of k + o < frames) × (kind_at (first_of k + o) ≡ k) × (0 < k) × (k < kinds)
unfolding kind_at first_of codes_of
coded k o i = let c = code 1 0 messages in_order k o i in (c.placed.1, c.found, c.listed.0, c.listed.1)

-- The same of a frame between the bounds of a kind's codes
pub ranged : (k f : ℕ) → first_of k ≤ f → f < first_of k + codes_of k → k ≡ kind_at f
ranged k f i j =
    let c = coded k (f - first_of k) (omega arith) in
    let e : first_of k + (f - first_of k) ≡ f = omega arith in sym (rw e at c.1)

-- No number over 2,047 has a kind, and no kind but 1 to 42 has a code
pub no_frame : (f : ℕ) → frames ≤ f → kind_at f ≡ 0
no_frame f i =
    let k = kind_at f in
    let o = f - first_of k in
    let z : 0 < k → ⊥ = λ p. let w = within_kind f k refl p in let c = coded k o (omega arith) in omega arith in
    omega arith

pub no_kind : (k : ℕ) → kinds ≤ k → codes_of k ≡ 0
no_kind k i = let z : 0 < codes_of k → ⊥ = λ p. let c = coded k 0 p in omega arith in omega arith

has : (n a : ℕ) (rs : List Row) → InOrder n a rs → (k : ℕ) → n ≤ k → k < kinds → 0 < codes_in rs k
unfolding codes_in
has n a [] h k i j = omega arith
has n a (r ∷ rs) h k i j = split (eqb r.kind k) refl (has (suc n) (suc r.last) rs h.3 k)
  where
    split : (t : Bool) → eqb r.kind k ≡ t → (suc n ≤ k → k < kinds → 0 < codes_in rs k) →
        0 < cond t (r.last + 1 - r.first) (codes_in rs k)
    split true e later = omega arith
    split false e later = let z = eqb-false r.kind k e in later (omega arith) j

pub listed : Listed
unfolding codes_of
listed k = (has 1 0 messages in_order k, λ i. let c = coded k 0 i in (c.2, c.3))
