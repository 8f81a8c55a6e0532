-- A copy into the bytes that were lent is a splice.
use mathlib.Core.Path.{refl}
use borrow.Author.Rules.{rules}
use Rattle.record.proofs.Parts.{filled}
use Rattle.text.proofs.put.Statement.{statement}
use Rattle.text.proofs.put.Tie as tie

returns : tie.Need-returns
returns c =
    record {
      is = rw c.copy.ensures.1 (filled c.args.out.now c.args.text.now c.args.at
          c.requires);
      behind = refl;
    }

pub put_spec : {M : Type 1} → statement M
put_spec =
    tie.close
    (tie.spec
    (λ c. search rules)
    (λ c. search rules)
    (λ c. search rules)
    (λ c. search rules)
    (λ c κs. search rules)
    (λ c. search rules)
    returns)
