-- `engine_reading::write` meets its contract: each return adds up what the definition does, from the first code of
-- the kind that its tests leave.
use Prim.Native.Nat.{ℕ}
use mathlib.Core.Path.{◌≡◌, refl}
use mathlib.Core.Bool.{true}
use native.Mathlib.Omega.{arith}
use borrow.Author.Rules.{rules}
use borrow.Author.Tests.{eqb-true, ne_eqb}
use Rattle.frame.specs.Messages.{messages, first_in, first_of}
use Rattle.frame.specs.Decoding.{dab, end, idy, has_c1}
use Rattle.engine_reading.proofs.write.Statement.{statement}
use Rattle.engine_reading.proofs.write.Tie as tie

first_is : (k j n : ℕ) → k ≡ j → first_of j ≡ n → first_of k ≡ n
first_is k j n e h = rw e h

-- neither DAB nor END
last : (k : ℕ) → has_c1 k ≡ true → (k ≡ dab → ⊥) → (k ≡ end → ⊥) → k ≡ idy
unfolding has_c1
last k t p q = eqb-true k idy (rw (ne_eqb k dab p, ne_eqb k end q) at t)

returns-then-message-eq-DAB : tie.Need-returns-then-message-eq-DAB
unfolding messages first_in first_of
returns-then-message-eq-DAB c = let e = first_is _ dab 0 c.if-message-eq-DAB.true refl in omega arith

returns-then-message-eq-END : tie.Need-returns-then-message-eq-END
unfolding messages first_in first_of
returns-then-message-eq-END c = let e = first_is _ end 0x200 c.if-message-eq-END.true refl in omega arith

returns : tie.Need-returns
unfolding messages first_in first_of
returns c =
    let i = c.before.before in
    let s = i.before.before.before.before in
    let e = first_is _ idy 0x600 (last s.args.message.kind s.requires.0 i.if-message-eq-DAB.false c.if-message-eq-END.false) refl in
    omega arith

pub write_spec : {M : Type 1} → statement M
write_spec =
    tie.close
    (tie.spec
    (λ c. search rules)
    (λ c. search rules)
    (λ c. search rules)
    (λ c. search rules)
    returns-then-message-eq-DAB
    (λ c. search rules)
    returns-then-message-eq-END
    (λ c. search rules)
    returns)
