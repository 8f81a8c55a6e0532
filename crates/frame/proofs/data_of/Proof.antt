-- `frame::data_of` meets its contract: below 512 it is a DAB, and below 1,024 an END.
use Prim.Native.Nat.{ℕ, ◌+◌, ◌/◌, ◌<◌}
use mathlib.Core.Path.{◌≡◌, sym, ap, ◌∙◌}
use mathlib.Core.Logic.{⊎_elim}
use native.Mathlib.Omega.{arith}
use borrow.Author.Rules.{rules}
use Rattle.frame.specs.Messages.{kind_at, messages, first_in, codes_in, first_of, codes_of}
use Rattle.frame.specs.Decoding.{dab, end, has_c1}
use Rattle.frame.proofs.Rows.{within_kind}
use Rattle.frame.proofs.Laws.{data_kind, data_free}
use Rattle.frame.proofs.data_of.Statement.{statement}
use Rattle.frame.proofs.data_of.Tie as tie

by_c2 : (f : ℕ) → f < 0x400 → dab + f / 512 ≡ kind_at f
unfolding messages first_in codes_in first_of codes_of
by_c2 f h =
    ⊎_elim (λ e. omega (arith, e, (within_kind f dab e (omega arith)).1))
    (λ e. let w = within_kind f end e (omega arith) in omega (arith, e, w.0, w.1)) (data_kind f h)

pub data_of_spec : {M : Type 1} → statement M
data_of_spec =
    tie.close
    (tie.spec
    (λ c. search rules)
    (λ c. record { fits = omega (arith, c.requires.past) })
    (λ c κs. let e = by_c2 c.args.frame c.requires.past in
    record { kind = e; free = ap has_c1 e ∙ data_free c.args.frame c.requires.past })
    (λ c. c.with_c1.ensures))
