-- The shape's refusal where the area has none, and else that of what is not sound.
use borrow.Author.Rules.{rules}
use Rattle.local_calls.proofs.no_choice.Statement.{statement}
use Rattle.local_calls.proofs.no_choice.Tie as tie

returns-then-shape_right : tie.Need-returns-then-shape_right
returns-then-shape_right c = rw (← c.shape_right.ensures, c.if-shape_right.true)

returns : tie.Need-returns
returns c = rw (← c.shape_right.ensures, c.if-shape_right.false)

pub no_choice_spec : {M : Type 1} → statement M
no_choice_spec =
    tie.close
    (tie.spec
    (λ c κs. search rules)
    returns-then-shape_right
    returns)
