-- A refusal's number is not 0, which tells of none; so C is told 0 just where there is none. No two refusals have one
-- number.
use Rattle.std.proofs.Common.{◌≡◌, ℕ, true, false, arith, refl, sym, ap, ◌∙◌}
use Rattle.std.specs.Prelude.{Result, Ok, Err, is_ok, is_err, cond, eqb}
use borrow.Author.Tests.{ne_eqb}
use Rattle.refusal.specs.Refusal.{number, told}
use Rattle.refusal.specs.declared.Refusal.{Refusal}

pub numbered_above : (r : Refusal) → number r ≡ 0 → ⊥
numbered_above Refusal.Shape e = omega arith
numbered_above Refusal.Unsound e = omega arith
numbered_above Refusal.NoDevice e = omega arith
numbered_above Refusal.BadFrame e = omega arith
numbered_above Refusal.Empty e = omega arith
numbered_above Refusal.Full e = omega arith
numbered_above Refusal.NoAbility e = omega arith
numbered_above Refusal.TooLong e = omega arith
numbered_above Refusal.Busy e = omega arith
numbered_above Refusal.BadSave e = omega arith

-- an answer is a refusal just where its number is not 0
pub told_is_err : (a : Result Unit Refusal) → is_err a ≡ true → told a ≡ 0 → ⊥
told_is_err (Ok done) e z = cc
told_is_err (Err refusal) e z = numbered_above refusal z

pub told_is_ok : (a : Result Unit Refusal) → is_err a ≡ false → told a ≡ 0
told_is_ok (Ok done) e = refl
told_is_ok (Err refusal) e = cc

pub ok_told : (a : Result Unit Refusal) → is_ok a ≡ eqb (told a) 0
ok_told (Ok done) = refl
ok_told (Err refusal) = sym (ne_eqb _ _ (numbered_above refusal))

-- the refusal of a number
abbrev reason : ℕ → Refusal
reason n =
    cond (eqb n 1) Refusal.Shape (
    cond (eqb n 2) Refusal.Unsound (
    cond (eqb n 3) Refusal.NoDevice (
    cond (eqb n 4) Refusal.BadFrame (
    cond (eqb n 5) Refusal.Empty (
    cond (eqb n 6) Refusal.Full (
    cond (eqb n 7) Refusal.NoAbility (
    cond (eqb n 8) Refusal.TooLong (
    cond (eqb n 9) Refusal.Busy Refusal.BadSave))))))))

reason_again : (r : Refusal) → reason (number r) ≡ r
reason_again Refusal.Shape = refl
reason_again Refusal.Unsound = refl
reason_again Refusal.NoDevice = refl
reason_again Refusal.BadFrame = refl
reason_again Refusal.Empty = refl
reason_again Refusal.Full = refl
reason_again Refusal.NoAbility = refl
reason_again Refusal.TooLong = refl
reason_again Refusal.Busy = refl
reason_again Refusal.BadSave = refl

pub one_reason : (r s : Refusal) → number r ≡ number s → r ≡ s
one_reason r s e = sym (reason_again r) ∙ (ap reason e ∙ reason_again s)
