-- The rule of a frame's kind, where one is listed and where none is.
use Prim.Native.Nat.{ℕ, zero, suc, ◌+◌, ◌≤◌, ◌<◌}
use mathlib.Core.Path.{◌≡◌, refl, sym, ap, ◌∙◌}
use mathlib.Core.Logic.{⊎_elim}
use mathlib.Core.List.{List, [], ◌∷◌}
use mathlib.Core.Bool.{Bool, true, false, cond, ◌&&◌, ◌||◌}
use native.Mathlib.Omega.{arith}
use lib.Dec.{T, eqb, ltb, leb}
use borrow.Author.Tests.{eqb-false, ne_eqb, ltb-true, leb-true}
use denote.Enum.Declared.{tag_of}
use types.Run.{OneOf}
use Rattle.frame.specs.declared.Kind.{Kind}
use Rattle.frame.specs.Messages.{kinds, number_of, kind_at, first_of, codes_of}
use Rattle.frame.specs.Decoding.{has_c1, decoded, Coded}
use Rattle.frame.specs.contracts.Kind.{the_type}
use Rattle.frame.proofs.Every.{tag}
use Rattle.frame.proofs.Laws.{both_true}
use Rattle.frame.proofs.Rows.{within_kind}
use Rattle.device.specs.Choose.{choose}
use Rattle.device.specs.Reply.{sends}
use Rattle.device.specs.Extended.{heeding}
use Rattle.device.specs.Take.{Rule, select, rules, extended_rules, takes_simple, takes_extended}
use Rattle.device.specs.declared.Device.{Device}
use Rattle.device.specs.Sent.{Sent}

-- what is given for the kind j is given for the frame's
given : (g : ℕ → Sent) (j : Kind) {k : Kind} {x : Sent} (f : ℕ) → number_of k ≡ kind_at f → k ≡ j → x ≡ g (number_of j) →
    x ≡ g (kind_at f)
given g j f e q h = h ∙ ap g (sym (ap number_of q) ∙ e)

pub listed : (j : Kind) {k : Kind} {x : Sent} (d : Device) (f : ℕ) → number_of k ≡ kind_at f → k ≡ j →
    x ≡ select (number_of j) (rules d f (decoded f)) (sends d f) → x ≡ takes_simple d f
unfolding takes_simple
listed j d f e q h = given (λ n. select n (rules d f (decoded f)) (sends d f)) j f e q h

pub listed_extended : (j : Kind) {k : Kind} {x : Sent} (d : Device) (f : ℕ) → number_of k ≡ kind_at f → k ≡ j →
    x ≡ select (number_of j) (extended_rules d f (decoded f)) (takes_simple (heeding d (number_of j)) f) →
    x ≡ takes_extended d f
unfolding takes_extended
listed_extended j d f e q h =
    given (λ n. select n (extended_rules d f (decoded f)) (takes_simple (heeding d n) f)) j f e q h

-- ---- a kind without a rule, among the frames of a class

abbrev free : ℕ → List ℕ → Bool
free k [] = true
free k (j ∷ js) = cond (eqb j k) false (free k js)

differ : (j k : ℕ) (b : Bool) → T (cond (eqb j k) false b) → (j ≡ k → ⊥) × T b
differ j k b t = split (eqb j k) refl t
  where
    split : (e : Bool) → eqb j k ≡ e → T (cond e false b) → (j ≡ k → ⊥) × T b
    split true q u = absurd u
    split false q u = (eqb-false j k q, u)

apart : (ks : List ℕ) (n k : ℕ) → OneOf ks n → T (free k ks) → n ≡ k → ⊥
apart [] n k o t q = o
apart (j ∷ []) n k o t q = (differ j k true t).0 (sym o ∙ q)
apart (j ∷ i ∷ ks) n k o t q =
    let p = differ j k (free k (i ∷ ks)) t in ⊎_elim (λ e. p.0 (sym e ∙ q)) (λ m. apart (i ∷ ks) n k m p.1 q) o

both : (a b : Bool) → T (cond a b false) → T a × T b
both true b t = (tt, t)
both false b t = absurd t

holds : (b : Bool) → T b → b ≡ true
holds true t = refl
holds false t = absurd t

-- the class: the frames from lo to below hi
module _ (lo hi : ℕ) where
  -- kind k of the list has no code there
  abbrev pub outside : ℕ → Bool
  outside k = ltb 0 k && (leb hi (first_of k) || leb (first_of k + codes_of k) lo)

  pub elsewhere : (f k : ℕ) → lo ≤ f → f < hi → outside k ≡ true → kind_at f ≡ k → ⊥
  elsewhere f k l h o e =
      let p = both_true (ltb 0 k) (leb hi (first_of k) || leb (first_of k + codes_of k) lo) o in
      let w = within_kind f k e (ltb-true 0 k p.0) in
      go (leb hi (first_of k)) (leb (first_of k + codes_of k) lo) refl refl p.1 w
    where
      go : (a b : Bool) → leb hi (first_of k) ≡ a → leb (first_of k + codes_of k) lo ≡ b → (a || b) ≡ true →
          (first_of k ≤ f) × (f < first_of k + codes_of k) → ⊥
      go true b p q t w = let m = leb-true hi (first_of k) p in omega arith
      go false true p q t w = let m = leb-true (first_of k + codes_of k) lo q in omega arith
      go false false p q t w = let y : false ≡ true = t in let z : ◌≡◌ {A = ℕ} 0 1 = cc in omega arith

  -- each rule's kind is none of ks, or has no code there
  abbrev pub unlisted : List ℕ → List Rule → Bool
  unlisted ks [] = true
  unlisted ks (r ∷ rs) = cond (cond (outside r.kind) true (free r.kind ks)) (unlisted ks rs) false

  falls : (ks : List ℕ) (f : ℕ) (rs : List Rule) (s : Sent) → lo ≤ f → f < hi → OneOf ks (kind_at f) →
      T (unlisted ks rs) → select (kind_at f) rs s ≡ s
  unfolding choose
  falls ks f [] s l h o t = refl
  falls ks f (r ∷ rs) s l h o t =
      let p = both (cond (outside r.kind) true (free r.kind ks)) (unlisted ks rs) t in
      rw (ne_eqb (kind_at f) r.kind (go (outside r.kind) refl p.0)) (falls ks f rs s l h o p.1)
    where
      go : (a : Bool) → outside r.kind ≡ a → T (cond a true (free r.kind ks)) → kind_at f ≡ r.kind → ⊥
      go true q u = elsewhere f r.kind l h q
      go false q u = apart ks (kind_at f) r.kind o u

  -- the n numbers from i on that are the kind of no rule there
  abbrev absent : ℕ → List Rule → List ℕ → List ℕ
  absent k [] ks = k ∷ ks
  absent k (r ∷ rs) ks = cond (cond (outside r.kind) false (eqb k r.kind)) ks (absent k rs ks)

  abbrev pub rest : List Rule → ℕ → ℕ → List ℕ
  rest rs i zero = []
  rest rs i (suc n) = absent i rs (rest rs (suc i) n)

  pub other : (k : Kind) {x : Sent} (d : Device) (f : ℕ) → number_of k ≡ kind_at f → lo ≤ f → f < hi →
      let rs = rules d f (decoded f) in
      OneOf (rest rs 0 kinds) (tag_of the_type k) → T (unlisted (rest rs 0 kinds) rs) → x ≡ sends d f →
      x ≡ takes_simple d f
  unfolding takes_simple
  other k d f e l h o t s =
      let ks = rest (rules d f (decoded f)) 0 kinds in
      let z : tag_of the_type k ≡ kind_at f = tag k ∙ e in
      s ∙ sym (falls ks f (rules d f (decoded f)) (sends d f) l h (rw z at o) t)

  -- p holds of each kind of ks that has a code there
  abbrev pub fits : (ℕ → Bool) → List ℕ → Bool
  fits p [] = true
  fits p (k ∷ ks) = cond (cond (outside k) true (p k)) (fits p ks) false

  fitting_first : (p : ℕ → Bool) (k f : ℕ) → lo ≤ f → f < hi → kind_at f ≡ k → T (cond (outside k) true (p k)) →
      p (kind_at f) ≡ true
  fitting_first p k f l h e t = go (outside k) refl t
    where
      go : (a : Bool) → outside k ≡ a → T (cond a true (p k)) → p (kind_at f) ≡ true
      go true q u = absurd (elsewhere f k l h q e)
      go false q u = ap p e ∙ holds (p k) u

  fitting : (p : ℕ → Bool) (ks : List ℕ) (f : ℕ) → lo ≤ f → f < hi → OneOf ks (kind_at f) → T (fits p ks) →
      p (kind_at f) ≡ true
  fitting p [] f l h o t = absurd o
  fitting p (k ∷ []) f l h o t = fitting_first p k f l h o (both (cond (outside k) true (p k)) true t).0
  fitting p (k ∷ j ∷ ks) f l h o t =
      let b = both (cond (outside k) true (p k)) (fits p (j ∷ ks)) t in
      ⊎_elim (λ e. fitting_first p k f l h e b.0) (λ m. fitting p (j ∷ ks) f l h m b.1) o

  -- of a frame of one of these kinds
  pub fitting_kind : (p : ℕ → Bool) (ks : List ℕ) (k : Kind) (f : ℕ) → number_of k ≡ kind_at f → lo ≤ f → f < hi →
      OneOf ks (tag_of the_type k) → T (fits p ks) → p (kind_at f) ≡ true
  fitting_kind p ks k f e l h o t =
      let z : tag_of the_type k ≡ kind_at f = tag k ∙ e in fitting p ks f l h (rw z at o) t

-- a frame of a kind of the list without C1, whose offset can be asked for
pub coded_as : (j : Kind) {k : Kind} (f : ℕ) → number_of k ≡ kind_at f → k ≡ j → ltb 0 (number_of j) ≡ true →
    has_c1 (number_of j) ≡ false → Coded (number_of j) f
coded_as j f e q l w = record { kind = sym (ap number_of q) ∙ e; listed = ltb-true 0 (number_of j) l; without = w }
