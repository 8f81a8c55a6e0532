-- The younger frames move up by two bytes, and the last place becomes 0.
use mathlib.Core.Path.{◌∙◌}
use mathlib.Core.List.{append-nil}
use native.Mathlib.Omega.{arith}
use lib.ListN.{drop_of_length-le}
use Rattle.area.specs.Sizes.{link_size}
use Rattle.area.proofs.Links.{count_in, shifted_is}
use borrow.Author.Rules.{rules}
use Rattle.area.proofs.link.drop_oldest.Statement.{statement}
use Rattle.area.proofs.link.drop_oldest.Tie as tie

sub_t5 : tie.Need-overflow_sub-rest
sub_t5 c = omega
    (arith, count_in c.args.link.now (λ i. (c.slice_known-1.given i).fits) c.requires.0, c.requires.1)

returns : tie.Need-returns
returns c = let b =
    c.args.link.now in
    c.copy.ensures.1
    ∙ simp (drop_of_length-le b {i = link_size} (omega (arith, c.requires.0.long)), append-nil)
    (shifted_is b (λ i. (c.slice_known-1.given i).fits) c.requires.0 c.requires.1)

pub drop_oldest_spec : {M : Type 1} → statement M
drop_oldest_spec =
    tie.close
    (tie.spec
    (λ c. search rules)
    sub_t5
    (λ c. search rules)
    (λ c. search rules)
    (λ c. search rules)
    (λ c. search rules)
    (λ c. search rules)
    (λ c. search rules)
    (λ c. search rules)
    (λ c κs. search rules)
    (λ c. search rules)
    returns)
