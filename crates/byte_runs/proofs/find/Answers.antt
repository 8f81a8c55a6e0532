-- A byte that is found stands as far behind the part's start, and where there is none the part's length leads to the
-- second place.
use Rattle.std.proofs.Common.{◌≡◌, ◌≤◌, arith, length, eqb, rules, tests}
use Rattle.std.specs.Prelude.{unwrap_or}
use Rattle.std.proofs.lemmas.Iterator.{YieldsList-from_slice}
use Rattle.std.proofs.lemmas.Iterator.Search.{position_from_yields_List}
use Rattle.byte_runs.specs.Bytes.{index_of, slice}
use Rattle.byte_runs.proofs.Runs.{index_found}
use Rattle.byte_runs.proofs.find.Goals.{After-position}
use Rattle.byte_runs.proofs.find.Goals as goal

found : (c : After-position) → let part = slice c.args.from c.args.to c.args.s.now in
    (unwrap_or c.position.result (length part) ≡ index_of c.args.byte part) × (index_of c.args.byte part ≤ length part)
found c = index_found c.args.byte (slice c.args.from c.args.to c.args.s.now)
    (position_from_yields_List (λ x. eqb x c.args.byte) _ _ c.position.result c.position.ensures.ran
    (YieldsList-from_slice _ (cc)) (λ x b q k. search (rules, tests)))

pub returns-in-Some : goal.returns-in-Some
returns-in-Some c =
    let f = rw c.in-Some.is at (found (goal.at.returns-in-Some c).After-position) in (omega arith, omega arith)

pub returns-in-None : goal.returns-in-None
returns-in-None c =
    let f = rw c.in-None.is at (found (goal.at.returns-in-None c).After-position) in (omega arith, omega arith)
