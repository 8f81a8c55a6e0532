-- At each return, what its tests found of the two decodings decides the definition's.
use Prim.Native.Nat.{ℕ}
use mathlib.Core.Path.{◌≡◌, ap}
use mathlib.Core.Bool.{and-false}
use native.Mathlib.Omega.{arith}
use borrow.Author.Tests.{eq-eqb, ne_eqb}
use Rattle.frame.specs.Messages.{kind_at}
use Rattle.frame.specs.Decoding.{decoded}
use Rattle.frame.specs.declared.Message.{Message}
use Rattle.data.proofs.agrees.Goals as goal

-- the parts of a decoding that the code has
record Read (f : ℕ) (came : Message) : Type 0 where
  kind : came.kind ≡ kind_at f
  offset : came.offset ≡ (decoded f).offset

read : (f : ℕ) (came : Message) → came ≡ decoded f → Read f came
read f came e = record { kind = ap (λ (m : Message). m.kind) e; offset = ap (λ (m : Message). m.offset) e }

pub returns-then-came-sent : goal.returns-then-came-sent
returns-then-came-sent c =
    let f = read c.args.frame _ c.data_of-came.ensures in
    let l = read c.args.last _ c.data_of-sent.ensures in
    rw (ne_eqb (kind_at c.args.frame) (kind_at c.args.last) (λ e. omega arith))

pub returns-then-came-sent-2 : goal.returns-then-came-sent-2
returns-then-came-sent-2 c =
    let f = read c.args.frame _ c.data_of-came.ensures in
    let l = read c.args.last _ c.data_of-sent.ensures in
    rw (ne_eqb (decoded c.args.frame).offset (decoded c.args.last).offset (λ e. omega arith), and-false)

pub returns : goal.returns
returns c =
    let f = read c.args.frame _ c.data_of-came.ensures in
    let l = read c.args.last _ c.data_of-sent.ensures in
    rw (
      eq-eqb (kind_at c.args.frame) (kind_at c.args.last) (omega arith),
      eq-eqb (decoded c.args.frame).offset (decoded c.args.last).offset (omega arith),
    )
