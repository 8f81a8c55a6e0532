-- Too many bytes, or the lines of the row.
use borrow.Author.Rules.{rules}
use borrow.Author.Tests.{lt-ltb, le-ltb}
use Rattle.lister.specs.Listing.{longest}
use Rattle.bus_script.specs.Listing.{bus_listing}
use Rattle.bus_script.proofs.list.Statement.{statement}
use Rattle.bus_script.proofs.list.Tie as tie

returns-then-row-gt-LONGEST : tie.Need-returns-then-row-gt-LONGEST
unfolding bus_listing
returns-then-row-gt-LONGEST c =
    rw (lt-ltb longest _ c.if-row-gt-LONGEST.true) c.put.ensures

returns : tie.Need-returns
unfolding bus_listing
returns c =
    rw (le-ltb longest _ c.if-row-gt-LONGEST.false) c.row_lines.ensures

pub list_spec : {M : Type 1} → statement M
list_spec =
    tie.close
    (tie.spec
    (λ c κs. search rules)
    (λ c. search rules)
    returns-then-row-gt-LONGEST
    (λ c. search rules)
    (λ c κs. search rules)
    (λ c. search rules)
    returns)
