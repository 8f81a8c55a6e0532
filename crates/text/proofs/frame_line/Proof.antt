-- Each character is that of a digit, and the eight of them are written at once.
use borrow.Author.Rules.{rules}
use Rattle.text.proofs.frame_line.Statement.{statement}
use Rattle.text.proofs.frame_line.Tie as tie

returns : tie.Need-returns
returns c =
    rw (
      ← c.hex_char.ensures,
      ← c.hex_char-2.ensures,
      ← c.hex_char-3.ensures,
      ← c.hex_char-4.ensures,
      ← c.hex_char-5.ensures,
      ← c.hex_char-6.ensures,
    )
    c.put.ensures

pub frame_line_spec : {M : Type 1} → statement M
frame_line_spec =
    tie.close
    (tie.spec
    (λ c κs. search rules)
    (λ c κs. search rules)
    (λ c κs. search rules)
    (λ c κs. search rules)
    (λ c κs. search rules)
    (λ c κs. search rules)
    (λ c. search rules)
    (λ c κs. search rules)
    (λ c. search rules)
    returns)
