-- The classes are all the kinds, and kind 0 has no rule.
use Rattle.std.proofs.Common.{ℕ, ◌≤◌, ◌<◌, ◌≡◌, refl, ap, true, arith}
use mathlib.Core.Logic.{◌⊎◌, inl, inr, ⊎_elim}
use native.Mathlib.Decide.{dec_lt}
use Rattle.frame.specs.Decoding.{dab, end, has_c1}
use Rattle.device.specs.Choose.{choose}
use Rattle.device.specs.Data.{data_or_end}
use Rattle.device.specs.Reply.{sends}
use Rattle.record.specs.Record.{device_of}
use Rattle.engine_simple.proofs.Ruled.{ruled}
use Rattle.engine_simple.proofs.simple.Goals as goal

low : (k : ℕ) → k ≤ 2 → (k ≡ 0 → ⊥) → (k ≡ dab) ⊎ (k ≡ end)
low k h z = go (dec_lt k 2)
  where
    go : Dec (k < 2) → (k ≡ dab) ⊎ (k ≡ end)
    go (yes i) = inl (omega arith)
    go (no i) = inr (omega arith)

has_c1_lem : (k : ℕ) → (k ≡ dab) ⊎ (k ≡ end) → has_c1 k ≡ true
unfolding has_c1
has_c1_lem k = ⊎_elim (λ e. ap has_c1 e) (λ e. ap has_c1 e)

pub returns-then-kind-eq0 : goal.returns-then-kind-eq0
unfolding choose
returns-then-kind-eq0 c =
    let d = device_of c.args.rec.now in
    let f = c.args.frame in
    ruled d f _ c.requires 0 (λ x. sends d f) c.if-kind-eq0.true refl refl

pub data_or_end-requires : goal.data_or_end-requires
data_or_end-requires c =
    (c.requires, has_c1_lem c.args.message.kind (low _ c.if-kind-gt-END.false c.if-kind-eq0.false))

pub returns : goal.returns
unfolding choose
returns c =
    let d = device_of c.args.rec.now in
    let f = c.args.frame in
    let e = c.data_or_end.ensures in
    ⊎_elim (λ k. ruled d f _ c.requires dab (data_or_end d) k e refl)
    (λ k. ruled d f _ c.requires end (data_or_end d) k e refl) (low _ c.if-kind-gt-END.false c.if-kind-eq0.false)
