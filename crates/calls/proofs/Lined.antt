-- A loop's links and devices are a line, and the hop of the loop is the hop of the line: both refuse, or both leave the
-- same.
use Prim.Native.Nat.{ℕ, suc}
use mathlib.Core.Path.{◌≡◌, refl, ap}
use mathlib.Core.Bool.{Bool, true, false, cond}
use mathlib.Core.Option.{Option, none, some}
use mathlib.Core.List.{List, [], ◌∷◌, tail}
use native.Mathlib.Omega.{arith}
use lib.ListN.{length, get_or}
use lib.Dec.{ltb, lit<}
use borrow.Author.Tests.{ltb-true, ltb-false}
use Rattle.std.specs.Prelude.{Some, None}
use Rattle.device.specs.Take.{takes}
use Rattle.device.specs.declared.Device.{Device}
use Rattle.record.specs.Record.{device_of}
use Rattle.area.specs.Sizes.{depth}
use Rattle.area.specs.Loop.{Loop}
use Rattle.area.specs.Lookup.{oldest_of, set_device, set_link, add}
use Rattle.order.specs.Line.{Line}
use Rattle.order.specs.Flat as flat
use Rattle.order.specs.Flat.{Flat, hop_flat}
use Rattle.order.proofs.Flat.{there, gone}
use Rattle.calls.specs.Outcome.{Outcome, refuse, done}
use Rattle.calls.specs.Calls.{at_place, of_oldest, into_room, hop_answer, passes, passes_on, hop_from, hop_in}
use Rattle.calls.specs.declared.HopAnswer.{HopAnswer}

-- devices that go by their rules, whatever is told of what they are handed, and whatever local calls they have
module _ {Local Byte : Type 0} (hand : Device → ℕ → Option Byte) (act : Device → Local → Option Device) where
  abbrev pub ruled : Line
  ruled =
      record {
        State = Device;
        Frame = ℕ;
        Local = Local;
        Byte = Byte;
        next = λ d f. (takes d f).device;
        send = λ d f. (takes d f).frame;
        hand = hand;
        act = act;
        depth = depth;
        deep = lit< tt;
      }

  -- a flat line as a loop
  abbrev pub loop_flat : Flat ruled → Loop
  loop_flat x = record { devices = x.states; links = x.links }

  -- an outcome and what the line came to: both refuse, or both leave the same, and what is answered and what happened
  -- agree
  pub data Alike (A B : Type 0) (P : A → B → Type 0) : Outcome A → Option (Flat ruled × B) → Type 0 where
    both_refuse : (k : ℕ) → (k ≡ 0 → ⊥) → Alike A B P (refuse k) none
    both_do : (r : A) (m : Loop) (x : Flat ruled) (b : B) → m ≡ loop_flat x → P r b →
        Alike A B P (done r m) (some (x, b))

  module _ (P : HopAnswer → Option Byte → Type 0)
      (tells : (d : Device) (f : ℕ) → P (hop_answer (takes d f).frame (takes d f).handed) (hand d f)) where
    pub hop_alike : (i : ℕ) (x : Flat ruled) → Alike HopAnswer (Option Byte) P (hop_in i (loop_flat x)) (hop_flat x i)
    unfolding hop_in
    hop_alike i x = go (ltb i (length x.states)) refl
      where
        d : Device
        d = get_or x.states i (device_of [])

        room : (f : ℕ) (q : List ℕ) → flat.link x i ≡ f ∷ q → (t : Bool) → Alike HopAnswer (Option Byte) P
            (into_room (passes i f (loop_flat x)) (cond t (Some (length (flat.link x (suc i)))) None))
            (cond t (some (
              flat.add (suc i) (takes d f).frame (flat.set_link i q (flat.set_state i (takes d f).device x)),
              hand d f,
            )) none)
        room f q e true =
            both_do _ _ _ _
            (ap (λ (g : List ℕ). add (suc i) (takes d f).frame
            (set_link i (tail g) (set_device i (takes d f).device (loop_flat x)))) e) (tells d f)
        room f q e false = both_refuse 6 (λ z. omega arith)

        from : (q : List ℕ) → flat.link x i ≡ q →
            Alike HopAnswer (Option Byte) P (of_oldest (passes_on i (loop_flat x)) (oldest_of q))
            (flat.hop_from x i (some d) q)
        from [] e = both_refuse 5 (λ z. omega arith)
        from (f ∷ q) e = room f q e (flat.room x (suc i))

        go : (t : Bool) → ltb i (length x.states) ≡ t →
            Alike HopAnswer (Option Byte) P
            (at_place (hop_from (loop_flat x)) (cond t (Some i) None)) (hop_flat x i)
        go true e = rw (there x.states i (device_of []) (ltb-true _ _ e)) (from (flat.link x i) refl)
        go false e = rw (gone x.states i (ltb-false _ _ e)) (both_refuse 3 (λ z. omega arith))
