-- The header's record, the devices' and the links', one behind the other, are the whole saved form.
use mathlib.Core.Path.{◌≡◌, refl, sym, ◌∙◌}
use mathlib.Core.List.{List, ◌++◌, map}
use Prim.Native.Nat.{ℕ, suc, ◌-◌}
use native.Mathlib.Omega.{arith}
use lib.ListN.{length, take, drop}
use lib.Seq.{length-take-le}
use Rattle.record.specs.Record.{record_size}
use Rattle.area.specs.Sizes.{header_size, link_size, record_at}
use Rattle.area.specs.Parts.{parts, join}
use Rattle.area.specs.Loop.{count_in}
use Rattle.area.proofs.Parts.{rest_is}
use Rattle.saved.specs.Saved.{header_kind, device_kind, link_kind, saved_header_size, recorded, with_edition, saved}
use Rattle.saved.proofs.Runs.{three}
use borrow.Author.Rules.{rules}
use Rattle.save.proofs.write_records.Statement.{statement}
use Rattle.save.proofs.write_records.Tie as tie

together : (a p ds ls : List ℕ) (n m l j k from at : ℕ) → n ≡ count_in a →
    p ≡ with_edition (recorded header_kind (take header_size a)) →
    ds ≡ join (map (recorded j) (parts record_size m (take (length a - from) (drop from a)))) →
    ls ≡ join (map (recorded k) (parts link_size l (take (length a - at) (drop at a)))) → j ≡ device_kind → m ≡ n →
    from ≡ header_size → k ≡ link_kind → l ≡ suc n → at ≡ record_at n → p ++ (ds ++ ls) ≡ saved a
unfolding saved
together a p ds ls n m l j k from at c x y z f g q r u v =
    rw (x, y, z, rest_is from a, rest_is at a, f, g, q, r, u, v, c)

out_prefix : tie.Need-slice_bounds-write_header-end-2
out_prefix c = sym (length-take-le saved_header_size c.args.out.now (search rules))

area_prefix : tie.Need-slice_bounds-write_header-end-3
area_prefix c = sym (length-take-le header_size c.args.area.now (search rules))

write_header-requires : tie.Need-write_header-requires
write_header-requires c κs =
    rw (
      length-take-le saved_header_size c.args.out.now (search rules),
      length-take-le header_size c.args.area.now (search rules),
    )
    (omega arith, refl)

returns : tie.Need-returns
returns c =
    three saved_header_size c.links_at-at.result c.args.out.now c.write_header.new.to
    c.write_run.new.to c.write_run-2.new.to (omega arith) (search rules) c.write_header.auto.to
    c.write_run.auto.to c.write_run-2.auto.to
    ∙ together c.args.area.now _ _ _ c.args.n _ _ _ _ _ _ c.requires.1 c.write_header.ensures
    c.write_run.ensures c.write_run-2.ensures refl (omega arith) refl refl (omega arith) (omega arith)

pub write_records_spec : {M : Type 1} → statement M
write_records_spec =
    tie.close
    (tie.spec
    (λ c. search rules)
    (λ c. search rules)
    (λ c κs. search rules)
    (λ c. search rules)
    out_prefix
    area_prefix
    write_header-requires
    (λ c. search rules)
    (λ c. search rules)
    (λ c. search rules)
    (λ c. search rules)
    (λ c. search rules)
    (λ c. search rules)
    (λ c κs. search rules)
    (λ c. search rules)
    (λ c. search rules)
    (λ c. search rules)
    (λ c. search rules)
    (λ c. search rules)
    (λ c. search rules)
    (λ c. search rules)
    (λ c κs. search rules)
    (λ c. search rules)
    returns)
