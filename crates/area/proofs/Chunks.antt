-- The chunks of some bytes, all of one width, are their parts: a test of each of them is that of all parts.
use mathlib.Core.Path.{◌≡◌, refl, sym, ap, subst, ◌∙◌}
use mathlib.Core.List.{List, [], ◌∷◌, ◌++◌}
use mathlib.Core.Bool.{Bool, true, false, ◌&&◌}
use Prim.Native.Nat.{ℕ, zero, suc, ◌+◌, ◌*◌, ◌<◌, ◌≤◌}
use native.Mathlib.Omega.{arith}
use native.Mathlib.Nat.{mul-suc, mul-zero, add_comm}
use lib.ListN.{length, take, drop, length-append, length-drop}
use lib.Seq.{take_at, drop_at, length-take-le}
use Rattle.std.proofs.lemmas.List.{take-take, drop-take}
use denote.Ref.{Bor}
use denote.Param.Members.{Mut, Called}
use Rattle.std.specs.Iterator.{Yields, CallableAtEachTurn, ChecksAll}
use Rattle.std.specs.List.{FoldsTo}
use Rattle.std.specs.Prelude.{Option, None, Some}
use Rattle.std.specs.Option.{MatchOption}
use Rattle.std.specs.Slice.Iter.{chunks_exact_rest, chunks_exact_size, chunks_exact_steps}
use Rattle.area.specs.Parts.{parts, all}

-- the next chunk is the first part, and behind it are the others
module _ (w n : ℕ) (b : List ℕ) (x : Bor (List ℕ)) where
  next_part : (s u : _) → chunks_exact_size {T = ℕ} s ≡ w → chunks_exact_rest s ≡ b → length b ≡ w * suc n →
      chunks_exact_steps s (Some x) u →
      (length x.now ≡ w) × (x.now ≡ take w b) × (chunks_exact_size u ≡ w) × (chunks_exact_rest u ≡ drop w b)
      × (length (drop w b) ≡ w * n)
  next_part s u e k h p =
      let a : length x.now ≡ w = p.1.1 ∙ e in
      let l : b ≡ x.now ++ chunks_exact_rest u = sym k ∙ p.1.0 in (
        a,
        rw (l, take_at x.now (chunks_exact_rest u) w a),
        p.0 ∙ e,
        rw (l, drop_at x.now (chunks_exact_rest u) w a),
        simp length-drop (omega (arith, h, mul-suc w n)),
      )

-- and where all were taken no other comes
none_left : (w : ℕ) (b : List ℕ) (x : Bor (List ℕ)) (s u : _) → 0 < w → chunks_exact_size {T = ℕ} s ≡ w →
    chunks_exact_rest s ≡ b → length b ≡ w * 0 → chunks_exact_steps s (Some x) u → ⊥
none_left w b x s u i e k h p =
    omega (arith, p.1.1, e, h, mul-zero w, ap length k, ap length p.1.0, length-append x.now (chunks_exact_rest u))

-- the parts of the bytes that are cut
pub parts_taken : (w n : ℕ) (b : List ℕ) → parts w n (take (w * n) b) ≡ parts w n b
unfolding parts
parts_taken w zero b = refl
parts_taken w (suc n) b =
    rw (mul-suc, add_comm (w * n) w, take-take w (w + w * n) b (omega arith), drop-take, parts_taken w n (drop w b))

module _ {F : Type 0} (g : Mut F (Bor (List ℕ) × Unit {0}) Bool) (w : ℕ) (f : F) where
  abbrev Passed : F → List (Bor (List ℕ)) → F → Type 0
  Passed = FoldsTo (λ p x q. Called g p (x, tt) true q)

  module _ (stays : (x : Bor (List ℕ)) (r : Bool) (f' : F) → Called g f (x, tt) r f' → f' ≡ f) where
    moves_not : (xs : List (Bor (List ℕ))) (j : F) → Passed f xs j → j ≡ f
    moves_not [] j c = sym c
    moves_not (x ∷ xs) j c = moves_not xs j (subst (λ k. Passed k xs j) (stays x true c.0 c.1) c.2)

    wide : (xs : List (Bor (List ℕ))) (s v : _) → chunks_exact_size {T = ℕ} s ≡ w → Yields chunks_exact_steps s xs v →
        chunks_exact_size v ≡ w
    wide [] s v e y = ap chunks_exact_size (sym y) ∙ e
    wide (x ∷ xs) s v e y = wide xs y.0 v (y.1.0 ∙ e) y.2

    -- each chunk may be shown to a test of parts
    pub callable : (s : _) → chunks_exact_size {T = ℕ} s ≡ w →
        ((x : Bor (List ℕ)) → length x.now ≡ w → g.pre f (x, tt)) →
        CallableAtEachTurn chunks_exact_steps (λ p x q. Called g p (x, tt) true q) (λ p x. g.pre p (x, tt)) s f
    callable s e may = record {
      at = λ xs v q x u y c p.
          subst (λ k. g.pre k (x, tt)) (sym (moves_not xs q c)) (may x (p.1.1 ∙ wide xs s v e y));
    }

    -- and the answer about all chunks is that about all parts
    module _ (t : List ℕ → Bool)
        (tells : (x : Bor (List ℕ)) (r : Bool) (f' : F) → length x.now ≡ w → Called g f (x, tt) r f' → r ≡ t x.now) where
      abbrev Told : Option (Bor (List ℕ)) → F → Bool → Type 0
      Told o j r = MatchOption o (r ≡ true) (λ x. (r ≡ false) × ((h : F) × Called g j (x, tt) false h))

      from_left : (xs : List (Bor (List ℕ))) (o : Option (Bor (List ℕ))) (s v u : _) (j : F) (n : ℕ) (b : List ℕ)
          (r : Bool) → 0 < w → chunks_exact_size {T = ℕ} s ≡ w → chunks_exact_rest s ≡ b → length b ≡ w * n →
          Yields chunks_exact_steps s xs v → Passed f xs j → chunks_exact_steps v o u → Told o j r →
          r ≡ all t (parts w n b)
      unfolding all parts
      from_left [] None s v u j zero b r i e k h y c p a = a
      from_left [] None s v u j (suc n) b r i e k h y c p a =
          let l = ap (λ z. length (chunks_exact_rest z)) y in
          absurd (omega (arith, p.1.0, h, mul-suc w n, ap chunks_exact_size y, l, ap length k))
      from_left [] (Some x) s v u j zero b r i e k h y c p a =
          absurd (none_left w b x s u i e k h (subst (λ z. chunks_exact_steps z (Some x) u) (sym y) p))
      from_left [] (Some x) s v u j (suc n) b r i e k h y c p a =
          let q = next_part w n b x s u e k h (subst (λ z. chunks_exact_steps z (Some x) u) (sym y) p) in
          let m : false ≡ t (take w b) =
          tells x false a.1.0 q.0 (subst (λ z. Called g z (x, tt) false a.1.0) (sym c) a.1.1) ∙ ap t q.1 in
          a.0 ∙ ap (λ z. z && all t (parts w n (drop w b))) m
      from_left (x ∷ xs) o s v u j zero b r i e k h y c p a = absurd (none_left w b x s y.0 i e k h y.1)
      from_left (x ∷ xs) o s v u j (suc n) b r i e k h y c p a =
          let q = next_part w n b x s y.0 e k h y.1 in
          let m : true ≡ t (take w b) = tells x true c.0 q.0 c.1 ∙ ap t q.1 in
          let c' : Passed f xs j = subst (λ k. Passed k xs j) (stays x true c.0 c.1) c.2 in
          from_left xs o y.0 v u j n (drop w b) r i q.2 q.3 q.4 y.2 c' p a
          ∙ ap (λ z. z && all t (parts w n (drop w b))) m

      pub all_told : (s u : _) (n : ℕ) (b : List ℕ) (r : Bool) → 0 < w → w * n ≤ length b →
          chunks_exact_size {T = ℕ} s ≡ w → chunks_exact_rest s ≡ take (w * n) b →
          ChecksAll chunks_exact_steps g s f r u → r ≡ all t (parts w n b)
      all_told s u n b r i h e k a =
          from_left a.0 a.1 s a.3.0 u a.2 n (take (w * n) b) r i e k (length-take-le (w * n) b h) a.3.1 a.4 a.3.2 a.5
          ∙ ap (all t) (parts_taken w n b)
