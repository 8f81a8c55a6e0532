-- The digit's range decides the character.
use borrow.Author.Rules.{rules}
use borrow.Author.Tests.{lt-ltb, le-ltb}
use Rattle.text.proofs.hex_char.Statement.{statement}
use Rattle.text.proofs.hex_char.Tie as tie

pub hex_char_spec : {M : Type 1} → statement M
hex_char_spec =
    tie.close
    (tie.spec
    (λ c. search rules)
    (λ c. search rules)
    (λ c. search rules)
    (λ c. rw (lt-ltb _ _ c.if-d-lt10.true))
    (λ c. rw (le-ltb _ _ c.if-d-lt10.false)))
