-- No two answers are told C alike: a refusal's number is not that of none, and no two refusals have one. So a contract
-- that speaks of what is told leaves one answer and one area, as one that speaks of the answer does.
use Rattle.std.proofs.Common.{◌≡◌, ℕ, List, refl, sym, ap}
use Rattle.std.specs.Prelude.{Result, Ok, Err}
use Rattle.calls.specs.Outcome.{After, Is}
use Rattle.calls.proofs.Laws.{unique}
use Rattle.refusal.specs.Refusal.{told}
use Rattle.refusal.specs.declared.Refusal.{Refusal}
use Rattle.refusal.proofs.Numbers.{numbered_above, one_reason}

pub told_once : (a b : Result Unit Refusal) → told a ≡ told b → a ≡ b
told_once (Ok done) (Ok again) e = refl
told_once (Ok done) (Err refusal) e = absurd (numbered_above refusal (sym e))
told_once (Err refusal) (Ok done) e = absurd (numbered_above refusal e)
told_once (Err refusal) (Err other) e = ap Err (one_reason refusal other e)

pub one_told : (o : After ℕ) (a b : Result Unit Refusal) (x y : List ℕ) →
    Is o (told a) x → Is o (told b) y → (a ≡ b) × (x ≡ y)
one_told o a b x y p q =
    let u = unique ℕ o (told a) (told b) x y p q in
    (told_once a b u.0, u.1)
