-- The frame goes behind those that are there, whose number is the count.
use Prim.Native.Nat.{◌<◌}
use mathlib.Core.Path.{◌≡◌}
use native.Mathlib.Omega.{arith}
use lib.ListN.{length, length-set}
use Rattle.area.specs.Sizes.{depth}
use Rattle.area.specs.Link.{frames_of}
use Rattle.area.proofs.Links.{room_is, count_in, longer_is}
use borrow.Author.Rules.{rules}
use Rattle.area.proofs.link.append.Statement.{statement}
use Rattle.area.proofs.link.append.Tie as tie

-- how many frames there are
behind : (c : tie.Start) →
    let a = c.args in (length (frames_of a.link.now) < depth) × (a.behind ≡ length (frames_of a.link.now))
behind c = room_is (frames_of c.args.link.now) c.args.behind c.requires.1

mul_at : tie.Need-overflow_mul-at
mul_at c = omega (arith, behind c)

add_at : tie.Need-overflow_add-at
add_at c = omega (arith, behind c)

add_link : tie.Need-overflow_add-link
add_link c = omega
    (arith, count_in c.args.link.now (λ i. (c.slice_known-1.given i).fits) c.requires.0, behind c.before)

bounds-link-at : tie.Need-bounds-link-at
bounds-link-at c = simp length-set (omega (arith, behind c.before, c.requires.0.long))

add_link_2 : tie.Need-overflow_add-link-2
add_link_2 c = omega (arith, behind c.before)

bounds-link-at-2 : tie.Need-bounds-link-at-2
bounds-link-at-2 c = simp length-set (omega (arith, behind c.before, c.requires.0.long))

returns : tie.Need-returns
returns c = longer_is c.args.link.now (λ i. (c.slice_known-1.given i).fits) c.requires.0
    c.args.behind c.args.frame c.requires.1

pub append_spec : {M : Type 1} → statement M
append_spec =
    tie.close
    (tie.spec
    mul_at
    add_at
    (λ c. search rules)
    add_link
    (λ c. search rules)
    (λ c. search rules)
    bounds-link-at
    (λ c. search rules)
    add_link_2
    bounds-link-at-2
    (λ c. search rules)
    returns)
