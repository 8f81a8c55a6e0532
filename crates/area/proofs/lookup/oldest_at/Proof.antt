-- The ten bytes lent are those of link j.
use mathlib.Core.Path.{ap, ◌∙◌}
use Rattle.area.specs.Lookup.{oldest_of}
use Rattle.area.proofs.Held.{frames_lent}
use borrow.Author.Rules.{rules}
use Rattle.area.proofs.lookup.oldest_at.Statement.{statement}
use Rattle.area.proofs.lookup.oldest_at.Tie as tie

returns : tie.Need-returns
returns c = c.oldest_in.ensures
    ∙ ap oldest_of (frames_lent c.args.area.now (λ i. (c.shared_slice_known-1.given i).fits) c.args.j
    c.link_start-at.result c.requires c.link_start-at.ensures)

pub oldest_at_spec : {M : Type 1} → statement M
oldest_at_spec =
    tie.close
    (tie.spec
    (λ c κs. search rules)
    (λ c. search rules)
    (λ c. search rules)
    (λ c. search rules)
    (λ c. search rules)
    (λ c κs. search rules)
    returns)
