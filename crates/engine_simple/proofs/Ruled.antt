-- The rule of a frame that was read, where one is listed for the number of its kind and where none is.
use Prim.Native.Nat.{ℕ, ◌<◌}
use mathlib.Core.Path.{◌≡◌, sym, ap, ◌∙◌}
use mathlib.Core.Bool.{true}
use Rattle.frame.specs.Messages.{kind_at}
use Rattle.frame.specs.Decoding.{has_c1, decoded}
use Rattle.frame.specs.declared.Message.{Message}
use Rattle.device.specs.Reply.{sends}
use Rattle.device.specs.Take.{select, rules, takes_simple}
use Rattle.device.specs.declared.Device.{Device}
use Rattle.device.specs.Sent.{Sent}
use Rattle.device.proofs.Chosen.{Unlisted, unselected}
use Rattle.device.proofs.Marked.{shows}

module _ (d : Device) (f : ℕ) (m : Message) (read : m ≡ decoded f) where
  pub kind_is : m.kind ≡ kind_at f
  kind_is = ap (λ (x : Message). x.kind) read

  -- what kind k's rule makes of the message, where that is what g gives for kind k, is what g gives for the frame's
  pub given : (g : ℕ → Sent) (k : ℕ) (rule : Message → Sent) {x : Sent} → m.kind ≡ k → x ≡ rule m →
      rule (decoded f) ≡ g k → x ≡ g (kind_at f)
  given g k rule e h r = h ∙ ap rule read ∙ r ∙ ap g (sym e ∙ kind_is)

  -- so it is what a simple device does
  pub ruled : (k : ℕ) (rule : Message → Sent) {x : Sent} → m.kind ≡ k → x ≡ rule m →
      rule (decoded f) ≡ select k (rules d f (decoded f)) (sends d f) → x ≡ takes_simple d f
  unfolding takes_simple
  ruled k rule e h r = given (λ n. select n (rules d f (decoded f)) (sends d f)) k rule e h r

  -- the same where only the device changes, by the offset
  pub obeyed : (k : ℕ) (rule : ℕ → Device) {e : Device} → m.kind ≡ k → e ≡ rule m.offset →
      sends (rule (decoded f).offset) f ≡ select k (rules d f (decoded f)) (sends d f) → sends e f ≡ takes_simple d f
  obeyed k rule q h r = ruled k (λ x. sends (rule x.offset) f) q (ap (λ (y : Device). sends y f) h) r

-- no rule
pub passed_on : (d : Device) (f : ℕ) (m : Message) → m ≡ decoded f → Unlisted m.kind (rules d f (decoded f)) →
    sends d f ≡ takes_simple d f
unfolding takes_simple
passed_on d f m read h = sym (rw (kind_is d f m read) at (unselected m.kind (rules d f (decoded f)) (sends d f) h))

-- the C1 of a frame of a kind that has one
pub few_c1 : (f : ℕ) {m : Message} → m ≡ decoded f → has_c1 m.kind ≡ true → m.c1 < 2
few_c1 f e t = rw e (shows f (rw e at t)).c1
