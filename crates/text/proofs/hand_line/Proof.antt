-- The word, the device and the other fields stand one behind the other; a device's number has at most two digits.
use native.Mathlib.Omega.{arith}
use borrow.Author.Rules.{rules}
use Rattle.text.proofs.Splices.{next}
use Rattle.text.proofs.Numbers.{two_digits}
use Rattle.text.proofs.hand_line.Statement.{statement}
use Rattle.text.proofs.hand_line.Tie as tie

decimal-fields-requires : tie.Need-decimal-fields-requires
decimal-fields-requires c κs =
    omega (arith, two_digits c.args.device c.requires.0, c.requires.1, c.put-number.ensures.behind)

put-requires : tie.Need-put-requires
put-requires c κs =
    omega (
      arith,
      two_digits c.args.device c.requires.0,
      c.requires.1,
      c.put-number.ensures.behind,
      c.decimal-fields.ensures.behind,
    )

returns : tie.Need-returns
returns c =
    rw (← c.hex_char.ensures, ← c.hex_char-2.ensures, ← c.hex_char-3.ensures)
    (next (omega (arith, c.requires.1)) c.put-number.ensures
    (next (omega (arith, c.requires.1, c.put-number.ensures.behind, c.put-number.auto.out)) c.decimal-fields.ensures
    c.put.ensures))

pub hand_line_spec : {M : Type 1} → statement M
hand_line_spec =
    tie.close
    (tie.spec
    (λ c κs. search rules)
    (λ c κs. search rules)
    (λ c κs. search rules)
    (λ c κs. search rules)
    decimal-fields-requires
    (λ c. search rules)
    put-requires
    (λ c. search rules)
    returns)
