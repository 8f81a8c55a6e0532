-- The clause on poll holds of what PPE, PPD, PPU and the status call leave: with the ability every sense, bit and
-- status is right, and without sense and bit the rest stays so.
use Prim.Native.Nat.{ℕ, ◌≤◌, ◌<◌}
use native.Mathlib.Omega.{arith}
use mathlib.Core.Path.{◌≡◌, refl}
use mathlib.Core.Bool.{Bool, true, false, not, ◌&&◌}
use lib.Dec.{eqb}
use borrow.Author.Tests.{le-leb, ne_eqb}
use Rattle.device.specs.Device.{parallel_poll, has_further}
use Rattle.device.specs.Change.{assigning, pollstatusing}
use Rattle.device.specs.Poll.{assignment, unassigned, ppe, ppd}
use Rattle.device.specs.declared.Device.{Device}
use Rattle.device.proofs.Chosen.{chosen}
use Rattle.record.specs.Sound.{only, is_assignment, poll_right}
use Rattle.keeps.proofs.Groups.{Kept, Polled, polled_of}
use Rattle.keeps.proofs.Changes.{polling_kept}

module _ (d : Device) (p : Polled d) where
  -- with the ability
  pub able_poll : (x s : ℕ) → has_further d parallel_poll ≡ true → is_assignment x ≡ true → s ≤ 1 →
      poll_right (pollstatusing (assigning d x) s) ≡ true
  able_poll x s a h l = rw (h, le-leb _ _ l, a)

  -- without sense and bit
  pub none_poll : poll_right (assigning d unassigned) ≡ true
  none_poll =
      rw (le-leb _ _ p.status)
      (go (not (has_further d parallel_poll)) (eqb d.assigned 0) (eqb d.pollstatus 0) p.able)
    where
      go : (n x y : Bool) → only n (x && y) ≡ true → only n y ≡ true
      go true true y h = h
      go true false y h = let z : false ≡ true = h in cc
      go false x y h = refl

-- PPE's number is one
pub is_assignment_lem : (s : ℕ) → s < 16 → is_assignment (assignment s) ≡ true
is_assignment_lem s h =
    rw (
      ne_eqb (assignment s) 0 (λ e. omega arith),
      le-leb 16 (assignment s) (omega arith),
      le-leb (assignment s) 31 (omega arith),
    )

module _ (d : Device) (k : Kept d) where
  pub none_kept : Kept (assigning d unassigned)
  none_kept = polling_kept d k unassigned d.pollstatus (none_poll d (polled_of d k.polls))

  pub ppe_kept : (s : ℕ) → s < 16 → Kept (ppe d s)
  unfolding ppe
  ppe_kept s h =
      let p = polled_of d k.polls in
      chosen Kept (eqb d.listener 1) _ d
      (λ l. chosen Kept (has_further d parallel_poll) _ d
      (λ a. polling_kept d k (assignment s) d.pollstatus
      (able_poll d p (assignment s) d.pollstatus a (is_assignment_lem s h) p.status))
      (λ a. k))
      (λ l. k)

  pub ppd_kept : Kept (ppd d)
  unfolding ppd
  ppd_kept = chosen Kept (eqb d.listener 1) _ d (λ l. none_kept) (λ l. k)
