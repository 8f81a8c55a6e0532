-- Laws of lists cut into parts and put together again: a part lent is the part cut there, and one given back is
-- spliced in.
use mathlib.Core.Path.{◌≡◌, refl, ap, ◌∙◌}
use mathlib.Core.List.{List, [], ◌∷◌, ◌++◌, append_assoc, map}
use mathlib.Core.Bool.{Bool, true, and-true}
use Prim.Native.Nat.{ℕ, zero, suc, ◌+◌, ◌-◌, ◌*◌, ◌≤◌, ◌<◌}
use native.Mathlib.Nat.{mul-suc, mul-zero, add_comm, add-sub_cancel_left, le_of_suc-le-suc, not-suc-le-zero}
use native.Mathlib.Omega.{arith}
use native.Mathlib.Decide.{dec_lt}
use lib.ListN.{get_or-eq_default, length, get_or, take, drop, set, length-append, length-take, length-drop}
use lib.Seq.{take_all, take_at, drop_at, take-append-add, drop-append-add, drop-drop, take-add, get_or-take, get_or-drop}
use lib.Seq.{length-take-le}
use Rattle.record.specs.Fits.{Bytes}
use Rattle.record.proofs.Both.{left, right}
use Rattle.area.specs.Parts.{part, parts, join, all}

-- b with the w bytes at a place replaced
abbrev pub splice : ℕ → ℕ → List ℕ → List ℕ → List ℕ
splice at w new b = take at b ++ (new ++ drop w (drop at b))

pub bytes_part : (at w : ℕ) (b : List ℕ) → Bytes b → Bytes (part at w b)
bytes_part at w b h i = go (dec_lt i w)
  where
    go : Dec (i < w) → get_or (part at w b) i 0 < 256
    go (yes k) = rw (get_or-take w (drop at b) i 0 k, get_or-drop) (h (at + i))
    go (no k) = rw (get_or-eq_default (part at w b) 0 {n = i} (simp length-take (omega arith))) (omega arith)

-- ---- parts

-- what is left of a slice, as it is lent
pub rest_is : (w : ℕ) (b : List ℕ) → take (length b - w) (drop w b) ≡ drop w b
rest_is w b = take_all (length b - w) (drop w b) (simp length-drop (omega arith))

pub length_parts : (w n : ℕ) (b : List ℕ) → length (parts w n b) ≡ n
unfolding parts
length_parts w zero b = refl
length_parts w (suc n) b = ap suc (length_parts w n (drop w b))

pub get_d_parts : (w n : ℕ) (b : List ℕ) (i : ℕ) → i < n → get_or (parts w n b) i [] ≡ part (w * i) w b
unfolding parts
get_d_parts w zero b i h = absurd (not-suc-le-zero h)
get_d_parts w (suc n) b zero h = rw mul-zero
get_d_parts w (suc n) b (suc i) h = get_d_parts w n (drop w b) i (le_of_suc-le-suc h)
    ∙ rw (drop-drop, mul-suc, add_comm w (w * i))

-- one part alone
pub alone : (p : List ℕ → Bool) (w : ℕ) (b : List ℕ) → length b ≡ w → all p (parts w 1 b) ≡ p b
unfolding all parts
alone p w b h = rw (take_all w b (omega arith)) (and-true (p b))

-- parts put together are what was cut
pub join_parts : (w n : ℕ) (b : List ℕ) → join (parts w n b) ≡ take (w * n) b
unfolding parts join
join_parts w zero b = rw mul-zero
join_parts w (suc n) b = rw (join_parts w n (drop w b), mul-suc, add_comm (w * n) w, take-add)

-- what is written of what was read of sound parts is those parts
pub map_back : {A : Type 0} (f : A → List ℕ) (g : List ℕ → A) (p : List ℕ → Bool) (w : ℕ) →
    ((b : List ℕ) → length b ≡ w → Bytes b → p b ≡ true → f (g b) ≡ b) →
    (n : ℕ) (b : List ℕ) → w * n ≤ length b → Bytes b → all p (parts w n b) ≡ true →
    map f (map g (parts w n b)) ≡ parts w n b
unfolding parts all
map_back f g p w same zero b len small t = refl
map_back f g p w same (suc n) b len small t =
    let l : w + w * n ≤ length b = rw (mul-suc, add_comm (w * n) w) at len in
    let e : f (g (take w b)) ≡ take w b =
    same (take w b) (length-take-le w b (omega arith)) (bytes_part 0 w b small)
    (left (p (take w b)) (all p (parts w n (drop w b))) t) in
    let r : map f (map g (parts w n (drop w b))) ≡ parts w n (drop w b) =
    map_back f g p w same n (drop w b) (simp length-drop (omega arith)) (λ i. rw get_or-drop (small (w + i)))
    (right (p (take w b)) (all p (parts w n (drop w b))) t) in
    cc

-- ---- a part past a prefix of known length

pub part_past : (p q : List ℕ) (k at w : ℕ) → length p ≡ k → part (k + at) w (p ++ q) ≡ part at w q
part_past p q k at w h = rw (← h, drop-append-add)

pub splice_past : (p q : List ℕ) (k at w : ℕ) (new : List ℕ) → length p ≡ k →
    splice (k + at) w new (p ++ q) ≡ p ++ splice at w new q
splice_past p q k at w new h = rw (← h, drop-append-add, take-append-add, append_assoc)

-- ---- a list of things, each written in w bytes

module _ {A : Type 0} (f : A → List ℕ) (w : ℕ) (wide : (x : A) → length (f x) ≡ w) where
  pub length_join : (xs : List A) → length (join (map f xs)) ≡ w * length xs
  unfolding join
  length_join [] = rw mul-zero
  length_join (x ∷ xs) = rw (length-append, wide x, length_join xs, mul-suc) (omega arith)

  pub part_join : (xs : List A) (rest : List ℕ) (i : ℕ) (d : A) → i < length xs →
      part (w * i) w (join (map f xs) ++ rest) ≡ f (get_or xs i d)
  unfolding join
  part_join [] rest i d h = absurd (not-suc-le-zero h)
  part_join (x ∷ xs) rest zero d h = rw (mul-zero, append_assoc) (take_at (f x) _ w (wide x))
  part_join (x ∷ xs) rest (suc i) d h =
      rw (mul-suc, add_comm (w * i) w, append_assoc)
      (part_past (f x) _ w (w * i) w (wide x) ∙ part_join xs rest i d (le_of_suc-le-suc h))

  pub splice_join : (xs : List A) (rest : List ℕ) (i : ℕ) (y : A) → i < length xs →
      splice (w * i) w (f y) (join (map f xs) ++ rest) ≡ join (map f (set xs i y)) ++ rest
  unfolding join
  splice_join [] rest i y h = absurd (not-suc-le-zero h)
  splice_join (x ∷ xs) rest zero y h =
      rw (mul-zero, append_assoc, append_assoc) (ap (λ (r : List ℕ). f y ++ r) (drop_at (f x) _ w (wide x)))
  splice_join (x ∷ xs) rest (suc i) y h =
      rw (mul-suc, add_comm (w * i) w, append_assoc, append_assoc)
      (splice_past (f x) _ w (w * i) w (f y) (wide x)
      ∙ ap (λ (r : List ℕ). f x ++ r) (splice_join xs rest i y (le_of_suc-le-suc h)))

  pub parts_join : (xs : List A) (rest : List ℕ) → parts w (length xs) (join (map f xs) ++ rest) ≡ map f xs
  unfolding join parts
  parts_join [] rest = refl
  parts_join (x ∷ xs) rest =
      let t : take w (f x ++ (join (map f xs) ++ rest)) ≡ f x = take_at (f x) _ w (wide x) in
      let d : drop w (f x ++ (join (map f xs) ++ rest)) ≡ join (map f xs) ++ rest = drop_at (f x) _ w (wide x) in
      rw (append_assoc, t, d, parts_join xs rest)

-- ---- a part as it is lent, and given back

abbrev pub lent : ℕ → ℕ → List ℕ → List ℕ
lent from w a = take (from + w - from) (drop from a)

abbrev pub given_back : ℕ → ℕ → List ℕ → List ℕ → List ℕ
given_back from w new a = take from a ++ (new ++ drop (from + w - from) (drop from a))

pub lent_is : (from at w : ℕ) (a : List ℕ) → from ≡ at → lent from w a ≡ part at w a
lent_is from at w a h = rw (h, add-sub_cancel_left)

pub given_back_is : (from at w : ℕ) (new a : List ℕ) → from ≡ at → given_back from w new a ≡ splice at w new a
given_back_is from at w new a h = rw (h, add-sub_cancel_left)
