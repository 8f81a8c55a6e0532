-- Each call on the area is calls of the loop, and a history is one call after the other.
use Prim.Native.Nat.{ℕ, ◌+◌}
use native.Mathlib.Omega.{arith}
use mathlib.Core.Path.{◌≡◌, refl, sym, ◌∙◌, ap}
use mathlib.Core.List.{List, [], ◌∷◌, ◌++◌, append_assoc}
use Rattle.order.specs.Line.{Line, Loop, Call, Event, answer, firstly, run}
use Rattle.order.specs.History.{each, total}
use Rattle.order.specs.Through.{Rendering, Every, calls_of, answers_of, Through, SameArea, read_each, read_total}
use Rattle.order.specs.Through.{Tells, ReadEach, ReadTotal}
use Rattle.order.proofs.Order.{from_any_loop}

module _ {L : Line} where
  run_append : (l : Loop L) (cs ds : List (Call L))
      → run l (cs ++ ds) ≡ firstly (run l cs).1 (run (run l cs).0 ds)
  run_append l [] ds = refl
  run_append l (c ∷ cs) ds = rw (run_append (answer l c).0 cs ds, append_assoc)

  pub each_append : {A : Type 0} (g : Event L → List A) (es fs : List (Event L))
      → each g (es ++ fs) ≡ each g es ++ each g fs
  each_append g [] fs = refl
  each_append g (e ∷ es) fs = rw (each_append g es fs, append_assoc)

  total_append : (g : Event L → ℕ) (es fs : List (Event L)) → total g (es ++ fs) ≡ total g es + total g fs
  total_append g [] fs = omega arith
  total_append g (e ∷ es) fs = omega (arith, total_append g es fs)

  module _ (R : Rendering L) where
    open R use {Area, Op, Answer, op, Good, render, calls, said, keeps, same}

    pub through : Through R
    through l [] g = (refl, g)
    through l (o ∷ os) g = let u = through (run l (calls o)).0 os (keeps l o g) in
        let split = run_append l (calls o) (calls_of R os) in (rw (split, same l o g, u.0), rw split u.1)

    pub same_area : SameArea R
    same_area l ss' os ref es g e c =
        let u = (from_any_loop L l ss' (calls_of R os) es e).0 in
        ap (λ p. p.0) (through l ref g).0 ∙ rw (c, u.ran, e) refl ∙ sym (ap (λ p. p.0) (through l os g).0)

    -- what the answers of answers_of tell
    told_each : {A : Type 0} (g : Op → Answer → List A) (e : Event L → List A) (os : List Op) → Every (Tells R g e) os
        → (l : Loop L) → Good l → read_each R g os (answers_of R l os) ≡ each e (run l (calls_of R os)).1
    told_each g e [] h l u = refl
    told_each g e (o ∷ os) h l u = let v = told_each g e os h.1 (run l (calls o)).0 (keeps l o u) in
        rw (run_append l (calls o) (calls_of R os), each_append e (run l (calls o)).1, h.0 l u, v)

    pub read_each_lem : ReadEach R
    read_each_lem A g e os h l u = rw (through l os u).0 (told_each g e os h l u)

    told_total : (g : Op → Answer → ℕ) (e : Event L → ℕ)
        → ((l : Loop L) (o : Op) → Good l → g o (said o l (run l (calls o)).1) ≡ total e (run l (calls o)).1)
        → (l : Loop L) (os : List Op) → Good l
        → read_total R g os (answers_of R l os) ≡ total e (run l (calls_of R os)).1
    told_total g e h l [] u = refl
    told_total g e h l (o ∷ os) u = let v = told_total g e h (run l (calls o)).0 os (keeps l o u) in
        rw (run_append l (calls o) (calls_of R os), total_append e (run l (calls o)).1, h l o u, v)

    pub read_total_lem : ReadTotal R
    read_total_lem g e h l os u = rw (through l os u).0 (told_total g e h l os u)
