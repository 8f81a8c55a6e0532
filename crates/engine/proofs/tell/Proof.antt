-- `engine::tell` meets its contract: each arm writes what the definition has for its case.
use borrow.Author.Rules.{rules}
use mathlib.Core.Path.{sym, ap, ◌∙◌}
use Rattle.walk.specs.Walk.{told_of}
use Rattle.engine.proofs.tell.Statement.{statement}
use Rattle.engine.proofs.tell.Tie as tie

returns-in-Nothing : tie.Need-returns-in-Nothing
returns-in-Nothing c =
    c.write.ensures ∙ sym (ap told_of c.in-Nothing.is)

returns-in-Byte : tie.Need-returns-in-Byte
returns-in-Byte c =
    c.write-in-Byte.ensures ∙ sym (ap told_of c.in-Byte.is)

returns-in-Clear : tie.Need-returns-in-Clear
returns-in-Clear c =
    c.write-in-Clear.ensures ∙ sym (ap told_of c.in-Clear.is)

returns-in-Trigger : tie.Need-returns-in-Trigger
returns-in-Trigger c =
    c.write-in-Trigger.ensures ∙ sym (ap told_of c.in-Trigger.is)

pub tell_spec : {M : Type 1} → statement M
tell_spec =
    tie.close
    (tie.spec
    (λ c. search rules)
    (λ c κs. search rules)
    (λ c. search rules)
    (λ c κs. search rules)
    (λ c. search rules)
    (λ c κs. search rules)
    (λ c. search rules)
    (λ c κs. search rules)
    (λ c. search rules)
    returns-in-Nothing
    (λ c. search rules)
    returns-in-Byte
    (λ c. search rules)
    returns-in-Clear
    (λ c. search rules)
    returns-in-Trigger)
