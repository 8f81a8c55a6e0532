-- The place of a byte as std tells it: the first that passes a test, or the length where none does.
use Rattle.std.proofs.Common.{ℕ, ◌≡◌, ◌≤◌, List, length, eqb, ltb, cond, not, refl, arith}
use Rattle.std.specs.Prelude.{Option, None, Some, unwrap_or}
use Rattle.std.specs.List.{position, position_or_len}
use Rattle.std.proofs.lemmas.Bool.Decides.{nat_tests}
use Rattle.std.proofs.lemmas.List.Recursion.{is_position_or_len}
use Rattle.std.proofs.lemmas.List.Sums.{prefix_len-le-length}
use Rattle.byte_runs.specs.Bytes.{index_of, index_after}

index_first : (b : ℕ) (s : List ℕ) → index_of b s ≡ position_or_len (λ x. eqb x b) s
unfolding index_of index_after
index_first b s = is_position_or_len (index_of b) (λ x. eqb x b) refl (λ x xs. grind arith) s

or_length : (n i : ℕ) → i ≤ n → unwrap_or (cond (ltb i n) (Some i) None) n ≡ i
or_length n i h = grind (arith, nat_tests)

pub index_found : (b : ℕ) (s : List ℕ) {r : Option ℕ} → r ≡ position (λ x. eqb x b) s →
    (unwrap_or r (length s) ≡ index_of b s) × (index_of b s ≤ length s)
index_found b s e =
    let h = prefix_len-le-length (λ x. not (eqb x b)) s in
    rw (e, index_first b s) (or_length _ _ h, h)
