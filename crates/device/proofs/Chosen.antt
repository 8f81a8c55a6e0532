-- What holds of every value that a test can choose, or a frame's kind select, or a device's variant, holds of the one
-- that is.
use Prim.Native.Nat.{ℕ}
use mathlib.Core.Path.{◌≡◌, refl, ap, ◌∙◌}
use mathlib.Core.List.{List, [], ◌∷◌}
use mathlib.Core.Bool.{Bool, true, false, cond}
use native.Mathlib.Omega.{arith}
use lib.Dec.{eqb}
use borrow.Author.Tests.{eqb-true, eqb-false, ne_eqb}
use Rattle.frame.specs.Messages.{kind_at}
use Rattle.frame.specs.Decoding.{decoded}
use Rattle.device.specs.Choose.{choose}
use Rattle.device.specs.Device.{extended, has_further}
use Rattle.device.specs.Extended.{command_kind, primary_idle, heeding, primary_lost}
use Rattle.device.specs.Take.{Rule, select, extended_rules, takes_simple, takes_extended, takes}
use Rattle.device.specs.declared.Device.{Device}
use Rattle.device.specs.Sent.{Sent}

-- what holds of both values holds of the one that is chosen
pub chosen : {A : Type 0} (P : A → Type 0) (b : Bool) (x y : A) → (b ≡ true → P x) → (b ≡ false → P y) →
    P (choose b x y)
unfolding choose
chosen P true x y h k = h refl
chosen P false x y h k = k refl

-- Q, if what each rule gives has P where k is its kind: an argument a rule
abbrev pub Each : (Sent → Type 0) → ℕ → List Rule → Type 0 → Type 0
Each P k [] Q = Q
Each P k (r ∷ rs) Q = (k ≡ r.kind → P r.gives) → Each P k rs Q

-- k is the kind of no rule
abbrev pub Unlisted : ℕ → List Rule → Type 0
Unlisted k [] = Unit {0}
Unlisted k (r ∷ rs) = (k ≡ r.kind → ⊥) × Unlisted k rs

-- so has what is selected, if that has P which is given where no rule has the kind
pub selected : (P : Sent → Type 0) (k : ℕ) (rs : List Rule) (s : Sent) → (Unlisted k rs → P s) →
    Each P k rs (P (select k rs s))
selected P k rs s h = go rs (P (select k rs s)) (λ o. o h)
  where
    go : (rs : List Rule) (Q : Type 0) → (((Unlisted k rs → P s) → P (select k rs s)) → Q) → Each P k rs Q
    go [] Q q = q (λ n. n tt)
    go (r ∷ rs) Q q =
        λ p. go rs Q (λ o. q (λ n. chosen P (eqb k r.kind) r.gives (select k rs s) (λ t. p (eqb-true _ _ t))
        (λ t. o (λ u. n (eqb-false _ _ t, u)))))

-- where none has it, what is given for that is selected
pub unselected : (k : ℕ) (rs : List Rule) (s : Sent) → Unlisted k rs → select k rs s ≡ s
unfolding choose
unselected k [] s h = refl
unselected k (r ∷ rs) s h = rw (ne_eqb k r.kind h.0) (unselected k rs s h.1)

-- by the rules of either variant
pub by_variant : (P : Sent → Type 0) (d : Device) (f : ℕ) → (has_further d extended ≡ true → P (takes_extended d f)) →
    (has_further d extended ≡ false → P (takes_simple d f)) → P (takes d f)
unfolding takes
by_variant P d f h k = chosen P (has_further d extended) (takes_extended d f) (takes_simple d f) h k

-- a device once a command that is not its own has come
module _ (d : Device) where
  pub lost : (P : Device → Type 0) → P (primary_idle d) → P d → P (primary_lost d)
  unfolding primary_lost
  lost P h k = chosen P (has_further d extended) (primary_idle d) d (λ e. h) (λ e. k)

  pub lost_extended : has_further d extended ≡ true → primary_lost d ≡ primary_idle d
  unfolding primary_lost choose
  lost_extended e = rw e

  pub lost_simple : has_further d extended ≡ false → primary_lost d ≡ d
  unfolding primary_lost choose
  lost_simple e = rw e

-- ---- a frame that an extended device takes as a simple one

abbrev pub listed : ℕ → List Rule → Bool
listed k [] = false
listed k (r ∷ rs) = cond (eqb k r.kind) true (listed k rs)

not_listed : (k : ℕ) (rs : List Rule) → listed k rs ≡ false → Unlisted k rs
not_listed k [] h = tt
not_listed k (r ∷ rs) h = go (eqb k r.kind) refl (not_listed k rs) h
  where
    go : (b : Bool) → eqb k r.kind ≡ b → (listed k rs ≡ false → Unlisted k rs) →
        cond b true (listed k rs) ≡ false → Unlisted k (r ∷ rs)
    go true e i h = let y : true ≡ false = h in let z : ◌≡◌ {A = ℕ} 0 1 = cc in absurd (omega arith)
    go false e i h = (eqb-false k r.kind e, i h)

module _ (d : Device) (f k : ℕ) (e : kind_at f ≡ k) (n : listed k (extended_rules d f (decoded f)) ≡ false) where
  pub heeded : takes_extended d f ≡ takes_simple (heeding d k) f
  unfolding takes_extended
  heeded =
      let own = extended_rules d f (decoded f) in
      ap (λ (j : ℕ). select j own (takes_simple (heeding d j) f)) e
      ∙ unselected k own (takes_simple (heeding d k) f) (not_listed k own n)

  -- no command
  pub as_simple : command_kind k ≡ false → takes d f ≡ takes_simple d f
  unfolding heeding choose
  as_simple c = by_variant (λ s. s ≡ takes_simple d f) d f (λ x. heeded ∙ rw c) (λ x. refl)

  -- a command that is no extended device's own
  pub as_lost : command_kind k ≡ true → takes d f ≡ takes_simple (primary_lost d) f
  unfolding heeding primary_lost choose
  as_lost c =
      by_variant (λ s. s ≡ takes_simple (primary_lost d) f) d f (λ x. heeded ∙ rw (c, x)) (λ x. rw x)
