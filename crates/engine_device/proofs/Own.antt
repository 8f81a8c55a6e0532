-- The rule of a frame that was read, at an extended device: one of its own, or the simple one's from where it begins.
use Prim.Native.Nat.{ℕ}
use mathlib.Core.Path.{◌≡◌, refl, sym, ap, ◌∙◌}
use mathlib.Core.Bool.{false}
use mathlib.Core.List.{List, [], ◌∷◌}
use borrow.Author.Tests.{ne_eqb}
use Rattle.frame.specs.Decoding.{decoded}
use Rattle.frame.specs.declared.Message.{Message}
use Rattle.device.specs.Extended.{heeding}
use Rattle.device.specs.Reply.{sends}
use Rattle.device.specs.Take.{Rule, select, extended_rules, takes_simple, takes_extended}
use Rattle.device.specs.declared.Device.{Device}
use Rattle.device.specs.Sent.{Sent}
use Rattle.device.proofs.Chosen.{Unlisted, listed, heeded}
use Rattle.engine_simple.proofs.Ruled.{kind_is, given}

unlisted : (k : ℕ) (rs : List Rule) → Unlisted k rs → listed k rs ≡ false
unlisted k [] h = refl
unlisted k (r ∷ rs) h = rw (ne_eqb k r.kind h.0) (unlisted k rs h.1)

module _ (d : Device) (f : ℕ) (m : Message) (read : m ≡ decoded f) where
  pub own : (k : ℕ) (rule : Message → Sent) {x : Sent} → m.kind ≡ k → x ≡ rule m →
      rule (decoded f) ≡ select k (extended_rules d f (decoded f)) (takes_simple (heeding d k) f) →
      x ≡ takes_extended d f
  unfolding takes_extended
  own k rule e h r =
      given d f m read (λ n. select n (extended_rules d f (decoded f)) (takes_simple (heeding d n) f)) k rule e h r

  -- the same where only the device changes, by the offset
  pub own_obeyed : (k : ℕ) (rule : ℕ → Device) {e : Device} → m.kind ≡ k → e ≡ rule m.offset →
      sends (rule (decoded f).offset) f ≡ select k (extended_rules d f (decoded f)) (takes_simple (heeding d k) f) →
      sends e f ≡ takes_extended d f
  own_obeyed k rule q h r = own k (λ x. sends (rule x.offset) f) q (ap (λ (y : Device). sends y f) h) r

  -- none of its own
  pub as_simple : {e : Device} {x : Sent} → Unlisted m.kind (extended_rules d f (decoded f)) →
      e ≡ heeding d m.kind → x ≡ takes_simple e f → x ≡ takes_extended d f
  as_simple h e r =
      r
      ∙ ap (λ (y : Device). takes_simple y f) e
      ∙ sym (heeded d f m.kind (sym (kind_is d f m read)) (unlisted m.kind (extended_rules d f (decoded f)) h))
