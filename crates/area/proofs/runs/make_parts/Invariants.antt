-- The parts made so far, and behind them the bytes that were there.
use Rattle.std.proofs.Common.{◌≡◌, ℕ, List, length, Bor, MutBor}
use Rattle.area.proofs.Made.{Made}
use Rattle.area.proofs.runs.make_parts.Given as goal

-- what each call leaves is what f makes of the part that it was shown
abbrev pub invariant-loop-i : goal.invariant-loop-i
invariant-loop-i g l =
    (f : List ℕ → List ℕ) →
    ((part : Bor (List ℕ)) (into out : MutBor (List ℕ)) → length part.now ≡ l.fn.width → length into.now ≡ l.fn.made →
    goal.F-post g l.fn.make part into tt out → out.now ≡ f part.now) →
    Made f l.fn.width l.fn.made l.fn.n l.fn.from l.i l.to
