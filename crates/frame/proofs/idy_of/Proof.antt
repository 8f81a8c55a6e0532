-- `frame::idy_of` meets its contract: the first IDY, its data bits and C1 are added up as the definition does.
use Prim.Native.Nat.{ℕ}
use mathlib.Core.Path.{◌≡◌, refl, ◌∙◌}
use native.Mathlib.Omega.{arith}
use borrow.Author.Rules.{rules}
use Rattle.frame.specs.Messages.{messages, first_in, first_of}
use Rattle.frame.specs.Decoding.{idy}
use Rattle.frame.proofs.idy_of.Statement.{statement}
use Rattle.frame.proofs.idy_of.Tie as tie

idy_first : first_of idy ≡ 0x600
unfolding messages first_in first_of
idy_first = refl

first_is : (c : tie.After-first) → c.first.result ≡ 0x600
first_is c = c.first.ensures ∙ idy_first

returns : tie.Need-returns
returns c = rw c.first.ensures

pub idy_of_spec : {M : Type 1} → statement M
idy_of_spec =
    tie.close
    (tie.spec
    (λ c. search rules)
    (λ c κs. search rules)
    (λ c. record { fits = omega (arith, first_is c) })
    (λ c. search rules)
    (λ c. record { fits = omega (arith, first_is c) })
    returns)
