-- `frame::c1s` meets its contract: its test is the definition's.
use mathlib.Core.Path.{sym, ◌∙◌}
use borrow.Author.Rules.{rules}
use Rattle.frame.proofs.Laws.{c1s_free, c1s_coded}
use Rattle.frame.proofs.c1s.Statement.{statement}
use Rattle.frame.proofs.c1s.Tie as tie

pub c1s_spec : {M : Type 1} → statement M
c1s_spec =
    tie.close
    (tie.spec
    (λ c κs. search rules)
    (λ c. sym (c1s_free _ (sym c.before.has_c1.ensures ∙ c.if-has_c1.true)))
    (λ c. sym (c1s_coded _ (sym c.before.has_c1.ensures ∙ c.if-has_c1.false))))
