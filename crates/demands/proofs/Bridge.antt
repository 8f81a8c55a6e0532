-- A call on a loop is the call of the line of its devices: put, hop, take and the local calls do the same to the same
-- links and devices, and refuse together; what each answers is what happened.
use Prim.Native.Nat.{ℕ, ◌<◌}
use mathlib.Core.Path.{◌≡◌, refl, ap}
use mathlib.Core.Bool.{Bool, true, false, cond}
use mathlib.Core.Option.{Option, none, some, map}
use mathlib.Core.List.{List, [], ◌∷◌, tail}
use native.Mathlib.Omega.{arith}
use lib.ListN.{length, get_or}
use lib.Dec.{eqb, ltb, leb}
use borrow.Author.Tests.{eqb-false, ltb-true, ltb-false, lt-ltb}
use Rattle.std.specs.Prelude.{Some, None}
use Rattle.frame.specs.Messages.{frames}
use Rattle.device.specs.Device.{is_choice}
use Rattle.device.specs.Take.{takes}
use Rattle.device.specs.declared.Handed.{Handed}
use Rattle.device.specs.declared.Handed.TheVariants as handed
use Rattle.record_local.specs.Local.{Called, loads}
use Rattle.record.specs.Record.{device_of}
use Rattle.area.specs.Loop.{Loop}
use Rattle.area.specs.Lookup.{oldest_of, set_device, set_link, add}
use Rattle.calls.specs.Outcome.{Outcome, refuse, done}
use Rattle.calls.specs.Calls.{at_place, of_oldest, into_room, hop_answer, put_in, taken_from, take_in, hop_in, called_in}
use Rattle.calls.specs.Calls.{refusal, called_at, local_in, load_in}
use Rattle.calls.specs.declared.HopAnswer.{HopAnswer}
use Rattle.calls.specs.declared.TakeAnswer.{TakeAnswer}
use Rattle.calls.proofs.Lined as lined
use Rattle.calls.proofs.Lined.{both_refuse, both_do}
use Rattle.order.specs.Line as line
use Rattle.order.specs.Flat as flat
use Rattle.order.specs.Flat.{Flat, put_flat, hop_flat}
use Rattle.order.specs.Flat.{take_from as takeFromFlat, take_flat, call_flat}
use Rattle.order.specs.History.{listed}
use Rattle.order.proofs.Flat.{there, gone}
use Rattle.demands.specs.Calls.{Byte, numbers, Local, load, status, wish, key, poll_status, called_by, local_by}
use Rattle.demands.specs.Histories.{Got, hop_tells, handed_over, accepted_by, papers}
use Rattle.demands.proofs.Refusals.{Told, no, yes}
use Rattle.demands.proofs.Tests.{load_untold}

-- a flat line as a loop, and the loop of a line
abbrev pub loop_flat : Flat papers → Loop
loop_flat x = record { devices = x.states; links = x.links }

abbrev pub to_loop : line.Loop papers → Loop
to_loop l = loop_flat (flat.flat l)

-- an outcome and what the line came to, as in Lined
abbrev pub Alike : (A B : Type 0) → (A → B → Type 0) → Outcome A → Option (Flat papers × B) → Type 0
Alike = lined.Alike (λ d f. handed_over (takes d f).handed) (λ d c. accepted_by (called_by c d))

-- ---- put

abbrev Fine : ℕ → Unit {0} → Type 0
Fine r b = r ≡ 0

abbrev bare : Option (Flat papers) → Option (Flat papers × Unit {0})
bare o = map (λ x. (x, tt)) o

pub put_alike : (f : ℕ) (x : Flat papers) → f < frames →
    Alike ℕ (Unit {0}) Fine (put_in f (loop_flat x)) (bare (put_flat x f))
unfolding put_in
put_alike f x h = rw (lt-ltb f frames h) (go (flat.room x 0))
  where
    go : (t : Bool) → Alike ℕ (Unit {0}) Fine
        (into_room (done 0 (add 0 f (loop_flat x))) (cond t (Some (length (flat.link x 0))) None))
        (bare (cond t (some (flat.add 0 f x)) none))
    go true = both_do 0 _ (flat.add 0 f x) tt refl refl
    go false = both_refuse 6 (λ z. omega arith)

-- ---- take

abbrev Took : TakeAnswer → ℕ → Type 0
Took r f = (r.refusal ≡ 0) × (r.frame ≡ f)

pub take_alike : (x : Flat papers) → Alike TakeAnswer ℕ Took (take_in (loop_flat x)) (take_flat x)
unfolding take_in
take_alike x = go (flat.link x (length x.states)) refl
  where
    go : (q : List ℕ) → flat.link x (length x.states) ≡ q →
        Alike TakeAnswer ℕ Took (of_oldest (taken_from (loop_flat x)) (oldest_of q)) (takeFromFlat x q)
    go [] e = both_refuse 5 (λ z. omega arith)
    go (f ∷ q) e = both_do _ _ (flat.set_link (length x.states) q x) f
        (ap (λ (g : List ℕ). set_link (length x.states) (tail g) (loop_flat x)) e) (refl, refl)

-- ---- hop

abbrev Hopped : HopAnswer → Option Got → Type 0
Hopped r h = (r.refusal ≡ 0) × (hop_tells r ≡ listed h)

hop_tells_lem : (f : ℕ) (h : Handed) → Hopped (hop_answer f h) (handed_over h)
hop_tells_lem f handed.Nothing = (refl, refl)
hop_tells_lem f (handed.Byte b e) = (refl, refl)
hop_tells_lem f handed.Clear = (refl, refl)
hop_tells_lem f handed.Trigger = (refl, refl)

pub hop_alike : (i : ℕ) (x : Flat papers) → Alike HopAnswer (Option Got) Hopped (hop_in i (loop_flat x)) (hop_flat x i)
hop_alike = lined.hop_alike (λ d f. handed_over (takes d f).handed) (λ d c. accepted_by (called_by c d)) Hopped
    (λ d f. hop_tells_lem (takes d f).frame (takes d f).handed)

-- ---- local calls

called_alike : (i : ℕ) (x : Flat papers) (c : Called) →
    Alike ℕ (Unit {0}) Fine (called_in i (loop_flat x) c) (bare (map (λ s. flat.set_state i s x) (accepted_by c)))
called_alike i x c = go (eqb c.refusal 0) refl
  where
    go : (t : Bool) → eqb c.refusal 0 ≡ t →
        Alike ℕ (Unit {0}) Fine (cond t (done 0 (set_device i c.device (loop_flat x))) (refuse c.refusal))
        (bare (map (λ s. flat.set_state i s x) (cond t (some c.device) none)))
    go true e = both_do 0 _ (flat.set_state i c.device x) tt refl refl
    go false e = both_refuse c.refusal (eqb-false c.refusal 0 e)

called_local : (c : Local) (i : ℕ) (x : Flat papers) →
    Alike ℕ (Unit {0}) Fine (local_in (called_by c) i (loop_flat x)) (bare (call_flat x i c))
unfolding local_in
called_local c i x = go (ltb i (length x.states)) refl
  where
    go : (t : Bool) → ltb i (length x.states) ≡ t →
        Alike ℕ (Unit {0}) Fine
        (at_place (called_at (called_by c) (loop_flat x)) (cond t (Some i) None)) (bare (call_flat x i c))
    go true e = rw (there x.states i (device_of []) (ltb-true _ _ e))
        (called_alike i x (called_by c (get_or x.states i (device_of []))))
    go false e = rw (gone x.states i (ltb-false _ _ e)) (both_refuse 3 (λ z. omega arith))

-- a load without a choice is refused by the line as by the loop, if not with the same number
load_refused : (o : Outcome ℕ) (k : ℕ) (p : Option (Flat papers × Unit {0})) → Told ℕ refusal o k → (k ≡ 0 → ⊥) →
    Alike ℕ (Unit {0}) Fine o p → Alike ℕ (Unit {0}) Fine (refuse 2) p
load_refused o k p (no j n) z (both_refuse j' n') = both_refuse 2 (λ e. omega arith)
load_refused o k p (yes r m e) z t = absurd (z refl)

load_alike : (i : ℕ) (bs : List Byte) (e : ℕ) (x : Flat papers) →
    Alike ℕ (Unit {0}) Fine (load_in i (numbers bs) e (loop_flat x)) (bare (call_flat x i (load bs e)))
unfolding load_in
load_alike i bs e x = go (is_choice e) refl
  where
    three_or_two : (t : Bool) → ◌≡◌ {A = ℕ} (cond t 3 2) 0 → ⊥
    three_or_two true z = omega arith
    three_or_two false z = omega arith

    go : (t : Bool) → is_choice e ≡ t →
        Alike ℕ (Unit {0}) Fine (cond t (local_in (λ d. loads d (numbers bs) e) i (loop_flat x)) (refuse 2))
        (bare (call_flat x i (load bs e)))
    go true q = called_local (load bs e) i x
    go false q =
        load_refused _ _ _ (load_untold i (numbers bs) e (loop_flat x) q) (three_or_two (leb (length x.states) i))
        (called_local (load bs e) i x)

pub local_alike : (c : Local) (i : ℕ) (x : Flat papers) →
    Alike ℕ (Unit {0}) Fine (local_by c i (loop_flat x)) (bare (call_flat x i c))
local_alike (load bs e) i x = load_alike i bs e x
local_alike (status s) i x = called_local (status s) i x
local_alike (wish w) i x = called_local (wish w) i x
local_alike key i x = called_local key i x
local_alike (poll_status s) i x = called_local (poll_status s) i x
