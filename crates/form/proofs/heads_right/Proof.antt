-- The header's record, the devices' and the links', each where the number of devices says.
use mathlib.Core.Path.{◌≡◌, refl, sym}
use mathlib.Core.List.{List}
use mathlib.Core.Bool.{Bool, ◌&&◌}
use Prim.Native.Nat.{ℕ, ◌+◌, ◌-◌}
use native.Mathlib.Omega.{arith}
use native.Mathlib.Numerals.{add-one}
use lib.ListN.{length, take, drop}
use lib.Seq.{length-take-le}
use Rattle.area.specs.Parts.{parts, all}
use Rattle.area.proofs.Parts.{rest_is}
use Rattle.saved.specs.Saved.{header_kind, device_kind, link_kind, saved_header_size, saved_device_size, saved_link_size}
use Rattle.saved.specs.Saved.{saved_links_at, saved_count, is_of}
use Rattle.saved.specs.Saved.{headed}
use borrow.Author.Rules.{rules}
use Rattle.form.proofs.heads_right.Statement.{statement}
use Rattle.form.proofs.heads_right.Tie as tie

together : (s : List ℕ) (x y z : Bool) (n m l i j k from at : ℕ) → n ≡ saved_count s →
    x ≡ is_of i (take saved_header_size s) →
    y ≡ all (is_of j) (parts saved_device_size m (take (length s - from) (drop from s))) →
    z ≡ all (is_of k) (parts saved_link_size l (take (length s - at) (drop at s))) → i ≡ header_kind → j ≡ device_kind →
    m ≡ n → from ≡ saved_header_size → k ≡ link_kind → l ≡ n + 1 → at ≡ saved_links_at n → (x && (y && z)) ≡ headed s
unfolding headed
together s x y z n m l i j k from at c p q r e f g h t u v =
    rw (p, q, r, rest_is from s, rest_is at s, e, f, g, h, t, u, v, add-one, c)

save_prefix : tie.Need-slice_bounds-head_right-end
save_prefix c = sym (length-take-le saved_header_size c.args.save.now (search rules))

head_right-requires : tie.Need-head_right-requires
head_right-requires c κs = rw (length-take-le saved_header_size c.args.save.now (search rules)) (omega arith, omega arith)

returns : tie.Need-returns
returns c =
    together c.args.save.now _ _ _ c.args.n _ _ _ _ _ _ _ c.requires.count c.head_right.ensures
    c.run_headed.ensures c.run_headed-2.ensures refl refl (omega arith) refl refl (omega arith)
    c.links_at-links.ensures

pub heads_right_spec : {M : Type 1} → statement M
heads_right_spec =
    tie.close
    (tie.spec
    (λ c κs. search rules)
    save_prefix
    head_right-requires
    (λ c. search rules)
    (λ c. search rules)
    (λ c. search rules)
    (λ c κs. search rules)
    (λ c. search rules)
    (λ c. search rules)
    (λ c. search rules)
    (λ c. search rules)
    (λ c κs. search rules)
    returns)
