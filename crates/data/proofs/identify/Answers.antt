-- The frame goes out with the device's answer, and marked.
use Prim.Native.Nat.{ℕ, ◌+◌, ◌*◌, ◌≤◌, ◌<◌}
use mathlib.Core.Path.{◌≡◌, refl, sym, ap, ◌∙◌}
use native.Mathlib.Omega.{arith}
use lib.Bits.{bit_or}
use Rattle.frame.specs.Messages.{frames}
use Rattle.frame.specs.Classes.{IsIdentify}
use Rattle.frame.specs.Decoding.{message, idy, decoded, frame_of}
use Rattle.frame.specs.declared.Message.{Message}
use Rattle.frame.proofs.Laws.{idy_kind, idy_free}
use Rattle.device.specs.Poll.{answer, answered}
use Rattle.device.specs.declared.Device.{Device}
use Rattle.device.proofs.Classes.{idy_frame}
use Rattle.device.proofs.Marked.{idy_shows, answers, made}
use Rattle.record.specs.Record.{device_of}
use Rattle.state.specs.State.{in_record}
use Rattle.data.proofs.identify.Goals as goal

-- what is made of the decoding and the answer
module _ (d : Device) (f : ℕ) (i : IsIdentify f) (came : Message) (bits x : ℕ) (p : came ≡ decoded f)
    (q : bits ≡ answer d) (e : x ≡ frame_of (message idy (bit_or came.offset bits) came.c1)) where
  c1_is : came.c1 ≡ (decoded f).c1
  c1_is = ap (λ (m : Message). m.c1) p

  c1_few : came.c1 < 2
  c1_few = omega (arith, c1_is, (idy_shows f i.first i.past).c1)

  made_is : x ≡ frame_of (answered d (decoded f))
  made_is = e ∙ rw (p, q, idy_kind f i.first i.past)

  marks : (x < frames) × (came.c1 < 2) × (256 * came.c1 ≤ x)
  marks = (
    rw made_is (made (answered d (decoded f)) (answers d (idy_shows f i.first i.past))).below,
    c1_few,
    omega (arith, e),
  )

pub with_c1-came-requires : goal.with_c1-came-requires
with_c1-came-requires c =
    let f = c.args.frame in
    let k = idy_kind f c.requires.first c.requires.past in
    let e = idy_free f c.requires.first c.requires.past in
    record { kind = sym k; free = rw k at e }

pub idy_of-answered-requires : goal.idy_of-answered-requires
idy_of-answered-requires c =
    c1_few (in_record c.args.rec.now c.args.state) c.args.frame c.requires c.with_c1-came.result
    c.answer.result _ c.with_c1-came.ensures c.answer.ensures refl

pub marked-requires : goal.marked-requires
marked-requires c =
    marks (in_record c.args.rec.now c.args.state) c.args.frame c.requires c.with_c1-came.result
    c.answer.result c.idy_of-answered.result c.with_c1-came.ensures c.answer.ensures c.idy_of-answered.ensures

pub returns : goal.returns
returns c =
    let f = c.args.frame in
    let b = c.args.rec.now in
    let d = in_record b c.args.state in
    let is = made_is d f c.requires c.with_c1-came.result c.answer.result c.idy_of-answered.result c.with_c1-came.ensures
    c.answer.ensures c.idy_of-answered.ensures in
    let c1 = ap (λ (n : Message). n.c1) c.with_c1-came.ensures in
    rw (
      idy_frame _ f c.requires.first c.requires.past,
      ← c.marked.ensures (device_of b) (answered d (decoded f)) is c1,
    ) (c.sends.ensures (device_of b))
