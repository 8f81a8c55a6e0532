-- Something holds of each element of a list: it goes on to hold as the list is changed, cut from bytes or written out.
use mathlib.Core.Path.{◌≡◌, refl}
use mathlib.Core.List.{List, [], ◌∷◌, ◌++◌, map, tail}
use mathlib.Core.Bool.{Bool, true}
use Prim.Native.Nat.{ℕ, zero, suc, ◌+◌}
use lib.ListN.{get_or, take, drop, set, replicate}
use lib.Seq.{get_or-drop}
use Rattle.record.specs.Fits.{Bytes}
use Rattle.record.proofs.Both.{both_true, left, right}
use Rattle.record.proofs.Bytes.{zeros_small, bytes_append}
use Rattle.area.specs.Parts.{parts, join, all}
use Rattle.area.proofs.Parts.{bytes_part}

module _ {A : Type 0} (P : A → Type 0) (d : A) where
  abbrev pub Each : List A → Type 0
  Each xs = (k : ℕ) → P (get_or xs k d)

  pub each_set : (xs : List A) (i : ℕ) (y : A) → P y → Each xs → Each (set xs i y)
  each_set [] i y p h k = h k
  each_set (x ∷ xs) zero y p h zero = p
  each_set (x ∷ xs) zero y p h (suc k) = h (suc k)
  each_set (x ∷ xs) (suc i) y p h zero = h zero
  each_set (x ∷ xs) (suc i) y p h (suc k) = each_set xs i y p (λ m. h (suc m)) k

  pub each_more : (xs : List A) (y : A) → P y → Each xs → Each (xs ++ (y ∷ []))
  each_more [] y p h zero = p
  each_more [] y p h (suc k) = h k
  each_more (x ∷ xs) y p h zero = h zero
  each_more (x ∷ xs) y p h (suc k) = each_more xs y p (λ m. h (suc m)) k

  pub each_tail : (xs : List A) → Each xs → Each (tail xs)
  each_tail [] h k = h k
  each_tail (x ∷ xs) h k = h (suc k)

  pub each_same : P d → (n : ℕ) → Each (replicate n d)
  each_same p zero k = p
  each_same p (suc n) zero = p
  each_same p (suc n) (suc k) = each_same p n k

  -- of what is read of the parts of some bytes that pass a test
  pub each_part : (g : List ℕ → A) (p : List ℕ → Bool) (w : ℕ) → ((b : List ℕ) → Bytes b → p b ≡ true → P (g b)) → P d →
      (n : ℕ) (b : List ℕ) → Bytes b → all p (parts w n b) ≡ true → Each (map g (parts w n b))
  unfolding parts all
  each_part g p w f z zero b s t k = z
  each_part g p w f z (suc n) b s t zero =
      f (take w b) (bytes_part 0 w b s) (left (p (take w b)) (all p (parts w n (drop w b))) t)
  each_part g p w f z (suc n) b s t (suc k) =
      each_part g p w f z n (drop w b) (λ i. rw get_or-drop (s (w + i)))
      (right (p (take w b)) (all p (parts w n (drop w b))) t) k

  -- so a test holds of all that is written of them
  pub each_all : {B : Type 0} (p : B → Bool) (f : A → B) → ((x : A) → P x → p (f x) ≡ true) → (xs : List A) →
      Each xs → all p (map f xs) ≡ true
  unfolding all
  each_all p f t [] h = refl
  each_all p f t (x ∷ xs) h = both_true (t x (h zero)) (each_all p f t xs (λ k. h (suc k)))

  -- and what is written of all is bytes, if that of each is
  pub each_bytes : (f : A → List ℕ) → ((x : A) → P x → Bytes (f x)) → (xs : List A) → Each xs → Bytes (join (map f xs))
  unfolding join
  each_bytes f t [] h = zeros_small 0
  each_bytes f t (x ∷ xs) h =
      bytes_append (f x) (join (map f xs)) (t x (h zero)) (each_bytes f t xs (λ k. h (suc k)))

  -- what is read of what was written is the same
  pub each_again : {B : Type 0} (f : A → B) (g : B → A) → ((x : A) → P x → g (f x) ≡ x) → (xs : List A) → Each xs →
      map g (map f xs) ≡ xs
  each_again f g t [] h = refl
  each_again f g t (x ∷ xs) h =
      let e : g (f x) ≡ x = t x (h zero) in
      let r : map g (map f xs) ≡ xs = each_again f g t xs (λ k. h (suc k)) in
      cc
