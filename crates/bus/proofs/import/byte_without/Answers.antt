-- The first byte without a command is the first that passes the test, and where there is none the row ends.
use Rattle.std.proofs.Common.{rules, tests, ◌∙◌, not}
use Rattle.std.proofs.lemmas.Iterator.{YieldsList-from_slice}
use Rattle.std.proofs.lemmas.Iterator.Search.{position_from_yields_List}
use Rattle.bus.specs.Codes.{has_command}
use Rattle.bus.proofs.Loops.{byte_found}
use Rattle.bus.proofs.import.byte_without.Goals as goal

pub returns : goal.returns
returns c =
    c.unwrap_or.ensures
    ∙ byte_found c.args.row.now
    (position_from_yields_List (λ b. not (has_command b)) _ _ c.position.result c.position.ensures.ran
    (YieldsList-from_slice c.args.row.now (cc)) (λ x b q k. search (rules, tests)))
