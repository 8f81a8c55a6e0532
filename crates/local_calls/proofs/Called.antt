-- A local call of a device by its number, whichever the call is: refused as the device was found, or else made in the
-- record of the device that was found.
use mathlib.Core.Path.{◌≡◌, refl, ◌∙◌}
use mathlib.Core.Bool.{Bool, true, false, cond}
use mathlib.Core.List.{List, ◌++◌}
use Prim.Native.Nat.{ℕ, ◌+◌, ◌-◌}
use native.Mathlib.Nat.{add-sub_cancel_left}
use lib.Dec.{eqb}
use lib.ListN.{take, drop, take-append-drop}
use borrow.Author.Tests.{eqb-true}
use Rattle.device.specs.declared.Device.{Device}
use Rattle.record_local.specs.Local.{Called}
use Rattle.record_local.specs.InPlace.{InPlace}
use Rattle.record.specs.Record.{record_size, device_of, record_of}
use Rattle.record.specs.Fits.{Good, Bytes}
use Rattle.area.specs.Sizes.{record_at, Starts}
use Rattle.area.specs.Loop.{loop_of, device, HasDevice}
use Rattle.area.specs.Lookup.{set_device}
use Rattle.area.proofs.Parts.{lent, given_back}
use Rattle.area.proofs.Areas.{loop_good}
use Rattle.area.proofs.Held.{device_lent, device_held}
use Rattle.calls.specs.Outcome.{done, refuse, after_of, call_of, Is}
use Rattle.calls.specs.Calls.{refusal, called_in, local_in}
use Rattle.calls.proofs.Outcomes.{local_none, local_there}
use Rattle.find.specs.Find.{found_of}
use Rattle.local_calls.specs.InRecord.{KeepsGood}
use Rattle.std.specs.Prelude.{Result, Ok, Err}
use Rattle.find.proofs.Named.{found_there, refused_as_found, done_as_found}

-- device k was found, and its record starts at a place
module _ (a : List ℕ) (i k : ℕ) (e : found_of a i ≡ Ok k) where
  pub there : HasDevice a k
  there = (found_there a i k e).0

  module _ (small : Bytes a) (from : ℕ) (s : Starts from (record_at k) record_size a) where
    -- a device that was called as c: its answer, and the area with its record given back
    called : (c : Called) → Good c.device → (r : ℕ) (x : List ℕ) → InPlace (lent from record_size a) c r x →
        Is (after_of refusal a (called_in k (loop_of a) c)) r (given_back from record_size x a)
    called c good r x p = go (eqb c.refusal 0) refl p.leaves
      where
        go : (t : Bool) → eqb c.refusal 0 ≡ t → x ≡ cond t (record_of c.device) (lent from record_size a) →
            Is (after_of refusal a (cond t (done 0 (set_device k c.device (loop_of a))) (refuse c.refusal))) r
            (given_back from record_size x a)
        go true q h =
            (p.answers ∙ eqb-true c.refusal 0 q, (device_held a small k from there s c.device x good h).written)
        go false q h = (p.answers, rw (h, take-append-drop, take-append-drop))

    made : (call : Device → Called) → KeepsGood call → (r : ℕ) (x : List ℕ) →
        InPlace (lent from record_size a) (call (device_of (lent from record_size a))) r x →
        Is (call_of refusal (local_in call i) a) r (given_back from record_size x a)
    made call good r x p =
        let t = found_there a i k e in
        done_as_found refusal (local_in call i) a i (local_none call i (loop_of a)) k r _ e
        (rw (local_there call i (loop_of a) (rw t.1 at t.0.there), ← t.1)
        (called (call (device (loop_of a) k)) (good _ ((loop_good a small there.judged).devices k)) r x
        (rw (device_lent a small k from there s) at p)))

    -- the same of the bytes as they stand, and of the area as it does
    pub made_back : (call : Device → Called) → KeepsGood call → (r : ℕ) (x y : List ℕ) →
        InPlace (take record_size (drop from a)) (call (device_of (take record_size (drop from a)))) r x →
        y ≡ take from a ++ (x ++ drop record_size (drop from a)) → Is (call_of refusal (local_in call i) a) r y
    made_back call good r x y p e =
        let w : from + record_size - from ≡ record_size = add-sub_cancel_left from record_size in
        rw e (rw w at (made call good r x (rw w p)))

pub refused : (call : Device → Called) (a : List ℕ) (i k : ℕ) → found_of a i ≡ Err k →
    Is (call_of refusal (local_in call i) a) k a
refused call a i k e = refused_as_found refusal (local_in call i) a i (local_none call i (loop_of a)) k k e refl
