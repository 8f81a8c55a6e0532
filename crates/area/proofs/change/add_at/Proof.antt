-- The ten bytes lent are those of link j, and with them given back the area is that of the loop with the frame.
use Rattle.area.specs.Loop.{loop_of, link}
use Rattle.area.proofs.Links.{room_is}
use Rattle.record.specs.Fits.{Bytes}
use Rattle.area.proofs.Held.{frames_lent, link_lent, added}
use borrow.Author.Rules.{rules}
use Rattle.area.proofs.change.add_at.Statement.{statement}
use Rattle.area.proofs.change.add_at.Tie as tie

append-requires : tie.Need-append-requires
append-requires c κs = let small : Bytes
    c.args.area.now = λ i. (c.slice_known-1.given i).fits in (
      link_lent c.args.area.now small c.args.j c.link_start-at.result c.requires.0 c.link_start-at.ensures,
      rw (frames_lent c.args.area.now small c.args.j c.link_start-at.result c.requires.0
          c.link_start-at.ensures) c.requires.1,
    )

returns : tie.Need-returns
returns c = added c.args.area.now (λ i. (c.slice_known-1.given i).fits) c.args.j
    c.link_start-at.result c.requires.0 c.link_start-at.ensures
    c.args.frame _ (room_is (link (loop_of c.args.area.now) c.args.j) c.args.behind c.requires.1).0
    c.requires.2 c.append.ensures

pub add_at_spec : {M : Type 1} → statement M
add_at_spec =
    tie.close
    (tie.spec
    (λ c κs. search rules)
    (λ c. search rules)
    (λ c. search rules)
    (λ c. search rules)
    (λ c. search rules)
    append-requires
    (λ c. search rules)
    returns)
