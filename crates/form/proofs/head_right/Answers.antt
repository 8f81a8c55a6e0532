-- The record starts with the head where the head stands at byte 0.
use mathlib.Core.List.{List, [], ◌∷◌}
use mathlib.Core.Path.{◌≡◌, refl, ◌∙◌}
use Prim.Native.Nat.{ℕ, suc, ◌+◌, ◌-◌, ◌≤◌}
use native.Mathlib.Omega.{arith}
use lib.Dec.{eqb}
use lib.ListN.{length, take, drop, get_or, length-drop}
use lib.Seq.{drop-cons}
use Rattle.std.specs.Cmp.Lexicographic.{pointwise}
use Rattle.std.proofs.lemmas.Bool.Decides.{nat_tests}
use Rattle.saved.specs.Saved.{head_size, head_of, is_of, stands}
use Rattle.saved.proofs.Record.{head_wide}
use Rattle.form.proofs.head_right.Goals as goal

eqb_sym : (x y : ℕ) → eqb x y ≡ eqb y x
eqb_sym x y = grind (arith, nat_tests)

starts : (at : ℕ) (h r : List ℕ) → at + length h ≤ length r → pointwise eqb h (take (length h) (drop at r)) ≡ stands at h r
unfolding stands
starts at [] r l = refl
starts at (x ∷ h) r l = rw (drop-cons r at 0 (omega arith), eqb_sym x (get_or r at 0), starts (suc at) h r (omega arith))

pub returns : goal.returns
unfolding is_of
returns c =
    let r = c.args.rec.now in
    let h = head_of c.args.kind (length r - head_size) in
    let w : length h ≡ head_size = head_wide c.args.kind (length r - head_size) in
    rw c.head_of.ensures at c.starts_with.ensures.value ∙ starts 0 h r (omega (arith, w)) ∙ simp length-drop
