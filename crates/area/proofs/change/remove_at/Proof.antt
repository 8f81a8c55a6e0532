-- The ten bytes lent are those of link j, and with them given back the area is that of the loop without the frame.
use Rattle.record.specs.Fits.{Bytes}
use Rattle.area.proofs.Held.{frames_lent, link_lent, removed}
use borrow.Author.Rules.{rules}
use Rattle.area.proofs.change.remove_at.Statement.{statement}
use Rattle.area.proofs.change.remove_at.Tie as tie

drop_oldest-requires : tie.Need-drop_oldest-requires
drop_oldest-requires c κs = let small : Bytes
    c.args.area.now = λ i. (c.slice_known-1.given i).fits in (
      link_lent c.args.area.now small c.args.j c.link_start-at.result c.requires.0 c.link_start-at.ensures,
      rw (frames_lent c.args.area.now small c.args.j c.link_start-at.result c.requires.0
          c.link_start-at.ensures) c.requires.1,
    )

returns : tie.Need-returns
returns c = removed c.args.area.now (λ i. (c.slice_known-1.given i).fits) c.args.j
    c.link_start-at.result c.requires.0 c.link_start-at.ensures _
    c.drop_oldest.ensures

pub remove_at_spec : {M : Type 1} → statement M
remove_at_spec =
    tie.close
    (tie.spec
    (λ c κs. search rules)
    (λ c. search rules)
    (λ c. search rules)
    (λ c. search rules)
    (λ c. search rules)
    drop_oldest-requires
    (λ c. search rules)
    returns)
