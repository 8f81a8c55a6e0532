-- Case by case of what was handed.
use mathlib.Core.Path.{sym, ap, ◌∙◌}
use Rattle.calls.specs.Calls.{hop_answer}
use borrow.Author.Rules.{rules}
use Rattle.hop.proofs.hop_answer.Statement.{statement}
use Rattle.hop.proofs.hop_answer.Tie as tie

returns-in-Byte : tie.Need-returns-in-Byte
returns-in-Byte c = sym (ap (hop_answer c.args.passed.frame) c.in-Byte.is)

returns-in-Clear : tie.Need-returns-in-Clear
returns-in-Clear c =
    c.no_byte.ensures ∙ sym (ap (hop_answer c.args.passed.frame) c.in-Clear.is)

returns-in-Trigger : tie.Need-returns-in-Trigger
returns-in-Trigger c =
    c.no_byte-in-Trigger.ensures ∙ sym (ap (hop_answer c.args.passed.frame) c.in-Trigger.is)

returns-in-Nothing : tie.Need-returns-in-Nothing
returns-in-Nothing c =
    c.no_byte-in-Nothing.ensures ∙ sym (ap (hop_answer c.args.passed.frame) c.in-Nothing.is)

pub hop_answer_spec : {M : Type 1} → statement M
hop_answer_spec =
    tie.close
    (tie.spec
    (λ c. search rules)
    (λ c. search rules)
    (λ c κs. search rules)
    (λ c. search rules)
    (λ c κs. search rules)
    (λ c. search rules)
    (λ c κs. search rules)
    returns-in-Byte
    returns-in-Clear
    returns-in-Trigger
    returns-in-Nothing)
