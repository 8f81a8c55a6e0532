-- The word, the number and the line's end stand one behind the other; a line's number has at most five digits.
use native.Mathlib.Omega.{arith}
use borrow.Author.Rules.{rules}
use Rattle.text.proofs.Splices.{next}
use Rattle.text.proofs.Numbers.{five_digits}
use Rattle.text.proofs.bad_line.Statement.{statement}
use Rattle.text.proofs.bad_line.Tie as tie

decimal-digits-requires : tie.Need-decimal-digits-requires
decimal-digits-requires c κs =
    omega (arith, five_digits c.args.number c.requires.0, c.put-word.ensures.behind)

put-requires : tie.Need-put-requires
put-requires c κs =
    omega (arith, five_digits c.args.number c.requires.0, c.put-word.ensures.behind, c.decimal-digits.ensures.behind)

returns : tie.Need-returns
returns c =
    next (omega arith) c.put-word.ensures
    (next (omega (arith, c.requires.1, c.put-word.ensures.behind, c.put-word.auto.out)) c.decimal-digits.ensures c.put.ensures)

pub bad_line_spec : {M : Type 1} → statement M
bad_line_spec =
    tie.close
    (tie.spec
    (λ c κs. search rules)
    decimal-digits-requires
    put-requires
    (λ c. search rules)
    returns)
