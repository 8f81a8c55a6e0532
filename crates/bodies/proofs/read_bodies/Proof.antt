-- The header, the devices' records and the links, one behind the other, are the whole area.
use mathlib.Core.Path.{◌≡◌, refl, sym, ◌∙◌}
use mathlib.Core.List.{List, ◌++◌, map}
use Prim.Native.Nat.{ℕ, ◌+◌, ◌-◌}
use native.Mathlib.Omega.{arith}
use native.Mathlib.Numerals.{add-one}
use lib.ListN.{length, take, drop}
use lib.Seq.{length-take-le}
use Rattle.area.specs.Sizes.{header_size, record_at}
use Rattle.area.specs.Parts.{parts, join}
use Rattle.area.proofs.Parts.{rest_is}
use Rattle.saved.specs.Saved.{head_size, saved_header_size, saved_device_size, saved_link_size, saved_links_at, saved_count}
use Rattle.saved.specs.Saved.{body, without_edition, contents}
use Rattle.saved.proofs.Runs.{part_of, lent_long, three}
use borrow.Author.Rules.{rules}
use Rattle.bodies.proofs.read_bodies.Statement.{statement}
use Rattle.bodies.proofs.read_bodies.Tie as tie

together : (s p ds ls : List ℕ) (n m l from at : ℕ) → n ≡ saved_count s →
    p ≡ without_edition (take header_size (drop head_size s)) →
    ds ≡ join (map body (parts saved_device_size m (take (length s - from) (drop from s)))) →
    ls ≡ join (map body (parts saved_link_size l (take (length s - at) (drop at s)))) → m ≡ n →
    from ≡ saved_header_size → l ≡ n + 1 → at ≡ saved_links_at n → p ++ (ds ++ ls) ≡ contents s
unfolding contents
together s p ds ls n m l from at c x y z e f g h =
    rw (x, part_of head_size header_size s, y, z, rest_is from s, rest_is at s, e, f, g, h, add-one, c)

area_prefix : tie.Need-slice_bounds-read_header-end-3
area_prefix c = sym (length-take-le header_size c.args.area.now (search rules))

read_header-requires : tie.Need-read_header-requires
read_header-requires c κs =
    rw (
      length-take-le header_size c.args.area.now (search rules),
      lent_long head_size saved_header_size header_size c.args.save.now (search rules) (omega arith),
    )
    (refl, refl)

returns : tie.Need-returns
returns c =
    three header_size (record_at c.args.n) c.args.area.now c.read_header.new.to c.read_run.new.to
    c.read_run-2.new.to (omega arith) (search rules) c.read_header.auto.to c.read_run.auto.to
    c.read_run-2.auto.to
    ∙ together c.args.save.now _ _ _ c.args.n _ _ _ _ c.requires.0.count c.read_header.ensures
    c.read_run.ensures c.read_run-2.ensures (omega arith) refl (omega arith) c.links_at-from.ensures

pub read_bodies_spec : {M : Type 1} → statement M
read_bodies_spec =
    tie.close
    (tie.spec
    (λ c κs. search rules)
    (λ c. search rules)
    (λ c. search rules)
    (λ c. search rules)
    (λ c. search rules)
    (λ c. search rules)
    (λ c. search rules)
    area_prefix
    read_header-requires
    (λ c. search rules)
    (λ c. search rules)
    (λ c. search rules)
    (λ c. search rules)
    (λ c. search rules)
    (λ c. search rules)
    (λ c κs. search rules)
    (λ c. search rules)
    (λ c. search rules)
    (λ c. search rules)
    (λ c. search rules)
    (λ c. search rules)
    (λ c. search rules)
    (λ c. search rules)
    (λ c κs. search rules)
    (λ c. search rules)
    returns)
