-- A drain as hops (01, The calls): what it answers and leaves, by the hops that the same model makes on the area, the
-- highest-numbered device first, and by why it stops.
use Rattle.std.specs.Prelude.{ℕ, zero, suc, Bool, cond, List, [], ◌∷◌, eqb}
use Rattle.std.proofs.Math.Option.{Option, none, some}
use Rattle.area.specs.Loop.{count_in}
use Rattle.calls.specs.Outcome.{After, after}
use Rattle.demands.specs.Calls.{hop, Call, on_area, Answer, drained}
use Rattle.demands.specs.Conditions.{due}
use Rattle.demands.specs.Histories.{Got, got, reported, handed_by}

-- device i can hop: no condition of the refusal table holds for its hop
abbrev pub can : List ℕ → ℕ → Bool
can a i = eqb (due (on_area (hop i)) a) 0

-- the highest-numbered of the first n devices that can
abbrev pub highest_of : List ℕ → ℕ → Option ℕ
highest_of a zero = none
highest_of a (suc i) = cond (can a i) (some i) (highest_of a i)

-- it stops after h hops, before another, for this reason
abbrev pub stops_before : (reason h : ℕ) → List ℕ → After Answer
stops_before why h a =
    after (drained (record { hops = h; refusal = 0; reason = why; device = 0; byte = 0; end = 0 })) a

-- just after device i's hop, the h-th, which left a: it handed a byte, or reported a clear or trigger
abbrev pub stops_after : (i h : ℕ) → Got → List ℕ → After Answer
stops_after i h (got b e) a =
    after (drained (record { hops = h; refusal = 0; reason = 2; device = i; byte = b; end = e })) a
stops_after i h (reported k) a =
    after (drained (record { hops = h; refusal = 0; reason = 3; device = i; byte = k; end = 0 })) a

-- device i's hop told these and left a: it stops for the first of them, and goes on if there is none
abbrev pub once_hopped : (i h : ℕ) → (List ℕ → After Answer) → List Got → List ℕ → After Answer
once_hopped i h goOn [] a = goOn a
once_hopped i h goOn (g ∷ gs) a = stops_after i h g a

module _ (model : Call → List ℕ → After Answer) where
  -- with budget b, after h hops: before a hop, 0 if none is possible, else 1 if the budget is spent
  abbrev pub by_hops : (b h : ℕ) → List ℕ → After Answer
  by_hops zero h a = elim (highest_of a (count_in a)) [ none ↦ stops_before 0 h a | some i ↦ stops_before 1 h a ]
  by_hops (suc b) h a =
      elim (highest_of a (count_in a)) [
        | none ↦ stops_before 0 h a
        | some i ↦ once_hopped i (suc h) (by_hops b (suc h)) (handed_by i (hop i) (model (on_area (hop i)) a).answer)
            (model (on_area (hop i)) a).area
      ]
