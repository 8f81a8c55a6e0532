-- Zeros with byte 0 set are the area of blank devices.
use Rattle.area.specs.Lookup.{blank_of}
use Rattle.area.proofs.Areas.{holds_of}
use Rattle.area.proofs.Blank.{blank_area, blank_sound}
use borrow.Author.Rules.{rules}
use Rattle.area.proofs.change.blank.Statement.{statement}
use Rattle.area.proofs.change.blank.Tie as tie

returns : tie.Need-returns
returns c = let n = c.args.n in
    rw (c.clear.ensures, c.requires.2, blank_area n) (holds_of (blank_of n) (blank_sound n c.requires.0 c.requires.1))

pub blank_spec : {M : Type 1} → statement M
blank_spec =
    tie.close
    (tie.spec
    (λ c κs. search rules)
    (λ c. search rules)
    (λ c. search rules)
    (λ c. search rules)
    returns)
