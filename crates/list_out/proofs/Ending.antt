-- A listing ends: each chunk goes on past the place where it began, or not at all.
use Rattle.std.proofs.Common.{arith, ◌≡◌, ℕ, suc, ◌-◌, ◌<◌, Bool, true, false, cond, List, length, refl}
use lib.Dec.{ltb}
use borrow.Author.Tests.{ltb-true}
use Rattle.lister.specs.Chunks.{Does, line_does, step_does, ready, line_at}
use Rattle.script.specs.Script.{frame_right}
use Rattle.lister.specs.declared.Next.{Next}

-- how many bytes are left where the listing goes on, and one
abbrev pub left : ℕ → Next → ℕ
left size (Next.Line at number) = suc (size - at)
left size Next.End = 0
left size Next.Refused = 0

record Falls (size at : ℕ) (d : Does) : Type 0 where
  fewer : left size d.next < suc (size - at)

either : (P : Does → Type 0) (t : Bool) {a b : Does} → (t ≡ true → P a) → (t ≡ false → P b) → P (cond t a b)
either P true then else = then refl
either P false then else = else refl

by_line : (size at n : ℕ) (area line : List ℕ) → at < size → Falls size at (line_does line at n area)
unfolding line_does
by_line size at n area line within =
    either (Falls size at) (frame_right line)
    (λ _. record { fewer = omega arith })
    (λ _. record { fewer = omega arith })

by_step : (input : List ℕ) (at n : ℕ) (area : List ℕ) (room : ℕ) → Falls (length input) at (step_does input at n area room)
unfolding step_does
by_step input at n area room =
    let size = length input in
    either (Falls size at) (ready n area room)
    (λ _. either (Falls size at) (ltb at size)
    (λ t. by_line size at n area (line_at at input) (ltb-true _ _ t))
    (λ _. record { fewer = omega arith }))
    (λ _. record { fewer = omega arith })

pub falls : (input : List ℕ) (at n : ℕ) (area : List ℕ) (room : ℕ) {was now : Next} → was ≡ Next.Line at n → now ≡ (step_does input at n area room).next → left (length input) now < left (length input) was
falls input at n area room was now = rw (was, now) (by_step input at n area room).fewer
