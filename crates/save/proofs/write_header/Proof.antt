-- The record of the header, and then the edition.
use borrow.Author.Rules.{rules}
use Rattle.save.proofs.write_header.Statement.{statement}
use Rattle.save.proofs.write_header.Tie as tie

returns : tie.Need-returns
returns c = rw c.write_record.ensures

pub write_header_spec : {M : Type 1} → statement M
write_header_spec =
    tie.close
    (tie.spec
    (λ c κs. search rules)
    (λ c. search rules)
    (λ c. search rules)
    returns)
