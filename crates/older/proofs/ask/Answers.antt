-- Each turn asks one more.
use Rattle.std.proofs.Common.{rules, ◌≡◌, refl, ◌∙◌, ◌+◌, ◌*◌, ◌≤◌, ℕ, List, length, drop}
use native.Mathlib.Omega.{arith}
use native.Mathlib.Nat.{add-sub_cancel_left}
use lib.Seq.{drop-drop}
use Rattle.std.proofs.lemmas.Slice.{drop-put_mid}
use Rattle.record.specs.Record.{record_size}
use Rattle.saved.specs.Older.{asked}
use Rattle.area.proofs.Made.{none_made, next_made, all_made}
use Rattle.older.proofs.ask.Goals as goal

-- what is behind the next record is the same of two lists of which the same is left
behind : (i : ℕ) (now was : List ℕ) → drop (record_size * i) now ≡ drop (record_size * i) was →
    drop (record_size * (i + 1)) now ≡ drop (record_size * (i + 1)) was
behind i now was e =
    let d : record_size * (i + 1) ≡ record_size * i + record_size = omega arith in
    rw (d, ← (drop-drop record_size (record_size * i) now), e, drop-drop record_size (record_size * i) was)

pub loop-i-init : goal.loop-i-init
loop-i-init c = (none_made asked record_size record_size c.args.n c.args.records.now c.args.records.now, refl)

pub loop-i-preserved : goal.loop-i-preserved
loop-i-preserved c =
    let l = c.loop-i in
    let was = c.args.records.now in
    let new = c.ask_one.new.rec in
    let wide : length new ≡ record_size = search rules in
    let room : record_size * l.i ≤ length l.records = omega arith in (
      next_made asked record_size record_size c.args.n was l.i _ l.records new c.loop-i-test.true room wide
          (rw (add-sub_cancel_left, l.invariant.1) at c.ask_one.ensures) l.invariant.0,
      drop-put_mid (record_size * l.i) _ l.records new (record_size * (l.i + 1)) (omega arith) room (omega arith)
          ∙ behind l.i l.records was l.invariant.1,
    )

pub returns : goal.returns
returns c =
    let l = c.loop-i in
    let i : l.i ≡ c.args.n = omega arith in
    all_made asked record_size record_size c.args.n c.args.records.now l.records (l.auto.records ∙ c.requires)
    (rw i at l.invariant.0)
