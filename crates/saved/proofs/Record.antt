-- One record: a body and the record of it give each other back, what starts as a record is one, and the edition in the
-- header's is put there and taken away.
use mathlib.Core.Path.{◌≡◌, refl, sym, ap, ◌∙◌}
use mathlib.Core.List.{List, [], ◌∷◌, map}
use mathlib.Core.Bool.{true}
use Prim.Native.Nat.{ℕ, suc, ◌+◌, ◌/◌, ◌%◌, ◌≤◌, ◌<◌}
use native.Mathlib.Omega.{arith}
use lib.Dec.{eqb}
use lib.ListN.{length, get_or, set, take, drop, length-append, length-drop, length-set, take-append-drop}
use lib.Seq.{drop_at, drop-cons, drop-set-add, get_or-drop, set-get_or, set-set}
use borrow.Author.Tests.{eq-eqb, eqb-true}
use Rattle.record.proofs.Both.{left, right}
use Rattle.area.specs.Parts.{all}
use Rattle.area.proofs.Each.{each_all, each_again}
use Rattle.saved.specs.Saved.{head_size, head_of, recorded, body, edition_at, with_edition, without_edition, stands}
use Rattle.saved.specs.Saved.{is_of}
use Rattle.saved.proofs.Wide.{Wide}

pub head_wide : (k n : ℕ) → length (head_of k n) ≡ head_size
unfolding head_of
head_wide k n = refl

-- a length and a kind below 256 are one byte each, and zeros
pub head_small : (k n : ℕ) → n < 256 → k < 256 → n ∷ 0 ∷ 0 ∷ 0 ∷ k ∷ 0 ∷ [] ≡ head_of k n
unfolding head_of
head_small k n h i =
    let nm : n % 256 ≡ n = omega arith in
    let nd : n / 256 ≡ 0 = omega arith in
    let km : k % 256 ≡ k = omega arith in
    let kd : k / 256 ≡ 0 = omega arith in
    rw (nm, nd, km, kd)

pub recorded_wide : (k w : ℕ) (b : List ℕ) → length b ≡ w → length (recorded k b) ≡ head_size + w
unfolding recorded
recorded_wide k w b h = rw (length-append, head_wide, h)

pub body_wide : (w : ℕ) (r : List ℕ) → length r ≡ head_size + w → length (body r) ≡ w
body_wide w r h = rw (length-drop, h) (omega arith)

pub body_recorded : (k : ℕ) (b : List ℕ) → body (recorded k b) ≡ b
unfolding recorded
body_recorded k b = drop_at (head_of k (length b)) b head_size (head_wide k (length b))

same : (x : ℕ) → eqb x x ≡ true
same x = eq-eqb x x refl

pub recorded_is : (k : ℕ) (b : List ℕ) → is_of k (recorded k b) ≡ true
unfolding is_of recorded head_of stands
recorded_is k b = simp same

stands_take : (h : List ℕ) (at : ℕ) (r : List ℕ) → stands at h r ≡ true → at + length h ≤ length r →
    take (length h) (drop at r) ≡ h
unfolding stands
stands_take [] at r t l = refl
stands_take (x ∷ h) at r t l =
    let e : get_or r at 0 ≡ x = eqb-true _ _ (left (eqb (get_or r at 0) x) (stands (suc at) h r) t) in
    let i : take (length h) (drop (suc at) r) ≡ h =
    stands_take h (suc at) r (right (eqb (get_or r at 0) x) (stands (suc at) h r) t) (omega arith) in
    rw (drop-cons r at 0 (omega arith), e, i)

pub recorded_body : (k : ℕ) (r : List ℕ) → is_of k r ≡ true → head_size ≤ length r → recorded k (body r) ≡ r
unfolding is_of recorded
recorded_body k r t l =
    let h = head_of k (length (body r)) in
    let w = head_wide k (length (body r)) in
    let e : take head_size r ≡ h = rw w at (stands_take h 0 r t (rw w l)) in
    rw (← e) (take-append-drop head_size r)

-- the edition stands in the body
pub edition_recorded : (k : ℕ) (b : List ℕ) → with_edition (recorded k b) ≡ recorded k (set b 1 1)
unfolding recorded head_of
edition_recorded k b = rw (length-set b 1 1)

pub body_edition : (r : List ℕ) → body (with_edition r) ≡ set (body r) 1 1
body_edition r = drop-set-add head_size r 1 1

-- put into a body without it and taken away again, and taken away from a record with it and put there again
pub without_again : (b : List ℕ) → get_or b 1 0 ≡ 0 → without_edition (set b 1 1) ≡ b
without_again b z = set-set b 1 1 0 ∙ ap (λ (x : ℕ). set b 1 x) (sym z) ∙ set-get_or b 1 0

pub with_again : (k : ℕ) (r : List ℕ) → is_of k r ≡ true → head_size ≤ length r → get_or r edition_at 0 ≡ 1 →
    with_edition (recorded k (without_edition (body r))) ≡ r
with_again k r t l e =
    let m : get_or (body r) 1 0 ≡ 1 = get_or-drop head_size r 1 0 ∙ e in
    let b : set (set (body r) 1 0) 1 1 ≡ body r =
    set-set (body r) 1 0 1 ∙ ap (λ (x : ℕ). set (body r) 1 x) (sym m) ∙ set-get_or (body r) 1 0 in
    edition_recorded k (without_edition (body r)) ∙ ap (recorded k) b ∙ recorded_body k r t l

-- ---- all the records of a run

module _ (k : ℕ) where
  pub bodies_recorded : (ps : List (List ℕ)) → map body (map (recorded k) ps) ≡ ps
  bodies_recorded ps =
      each_again (λ (p : List ℕ). Unit {0}) [] (recorded k) body (λ p t. body_recorded k p) ps (λ i. tt)

  pub recorded_are : (ps : List (List ℕ)) → all (is_of k) (map (recorded k) ps) ≡ true
  recorded_are ps =
      each_all (λ (p : List ℕ). Unit {0}) [] (is_of k) (recorded k) (λ p t. recorded_is k p) ps (λ i. tt)

  pub recorded_bodies : (w : ℕ) (rs : List (List ℕ)) → Wide w rs → head_size ≤ w → all (is_of k) rs ≡ true →
      map (recorded k) (map body rs) ≡ rs
  unfolding all Wide
  recorded_bodies w [] h l t = refl
  recorded_bodies w (r ∷ rs) h l t =
      let e : recorded k (body r) ≡ r =
      recorded_body k r (left (is_of k r) (all (is_of k) rs) t) (omega (arith, h.0)) in
      let i : map (recorded k) (map body rs) ≡ rs =
      recorded_bodies w rs h.1 l (right (is_of k r) (all (is_of k) rs) t) in
      cc
