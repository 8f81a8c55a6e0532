-- `frame::offset_of` meets its contract: a frame of a kind without C1 is not below the kind's first code, nor more than
-- 255 above it.
use Prim.Native.Nat.{ℕ, ◌-◌, ◌≤◌, ◌<◌}
use mathlib.Core.Path.{◌≡◌, sym}
use native.Mathlib.Omega.{arith}
use borrow.Author.Rules.{rules}
use Rattle.frame.specs.Messages.{kinds, number_of, first_of}
use Rattle.frame.specs.declared.Kind.{Kind}
use Rattle.frame.specs.Decoding.{decoded, Coded}
use Rattle.frame.proofs.Rows.{within_kind, coded}
use Rattle.frame.proofs.Every.{short}
use Rattle.frame.proofs.Laws.{offset_coded}
use Rattle.frame.proofs.offset_of.Statement.{statement}
use Rattle.frame.proofs.offset_of.Tie as tie

-- where the frame lies
record Lies (k f : ℕ) : Type 0 where
  small : k < kinds
  above : first_of k ≤ f
  near : f - first_of k < 256
  offset : f - first_of k ≡ (decoded f).offset

lies : (j : Kind) (f : ℕ) → Coded (number_of j) f → Lies (number_of j) f
lies j f p =
    let k = number_of j in
    let w = within_kind f k (sym p.kind) p.listed in
    let s = short j p.without in
    record {
      small = (coded k (f - first_of k) (omega arith)).3;
      above = w.0;
      near = omega arith;
      offset = rw (← p.kind) (sym (offset_coded k p.without p.listed f));
    }

-- the same of the number that the code has
at : (c : tie.After-number) → Lies c.number.result c.before.args.frame
at c = rw c.number.ensures (lies c.before.args.kind c.before.args.frame c.before.requires)

pub offset_of_spec : {M : Type 1} → statement M
offset_of_spec =
    tie.close
    (tie.spec
    (λ c κs. search rules)
    (λ c. search rules)
    (λ c κs. (at c).small)
    (λ c. omega (arith, (at c.before).above, c.first.ensures))
    (λ c. record { fits = omega (arith, (at c.before).near, c.first.ensures) })
    (λ c. rw c.first.ensures (at c.before).offset))
