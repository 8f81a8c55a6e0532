-- What the demands shut out, among it the programs that 01 names under "How far each contract reaches": statements,
-- proved in proofs/Teeth.antt.
use Rattle.std.specs.Prelude.{ℕ, suc, ◌<◌, ◌≡◌, true, List, [], ◌∷◌, ◌++◌, replicate}
use Rattle.std.proofs.Common.{lit<}
use Rattle.frame.specs.Messages.{frames}
use Rattle.device.specs.PowerOn.{power_on}
use Rattle.device.specs.Take.{takes}
use Rattle.area.specs.Loop.{Loop, count_in, loop_of, area_of, device, link}
use Rattle.calls.specs.Outcome.{After}
use Rattle.demands.specs.Calls.{Byte, load, Action, put, hop, local, drain, save, Call, on_area, opens, on_frame, decode}
use Rattle.demands.specs.Calls.{Answer, plain, hopped, taken, drained, owing, saving, decoded, encoded, polled, pil}
use Rattle.demands.specs.Calls.{walk, walked, refusal_in}
use Rattle.demands.specs.Conditions.{Shape, Unsound, NoDevice, Empty, Full, BadSave}
use Rattle.demands.specs.Histories.{hops_by}
use Rattle.demands.specs.Demands.{Refuses, CanHop, ruled, Obeys}

-- ---- Demand 1

-- No model that refuses a call always, whatever its number and the area, meets demand 1:
abbrev pub NoneRefusing : (ℕ → Action) → Type 0
NoneRefusing call = (model : Call → List ℕ → After Answer) →
    ((x : ℕ) (a : List ℕ) → refusal_in (model (on_area (call x)) a).answer ≡ 0 → ⊥) → Refuses model → ⊥

-- be it every put, every hop, every save in an output of zeros, every opening, or every walk.
pub record RefuserShutOut : Type 0 where
  pub of_puts : NoneRefusing put
  pub of_hops : NoneRefusing hop
  pub of_saves : NoneRefusing (λ x. save (replicate x (record { value = 0; small = lit< tt })))
  pub of_openings : (model : Call → List ℕ → After Answer) →
      ((s : List Byte) (a : List ℕ) → refusal_in (model (opens s) a).answer ≡ 0 → ⊥) → Refuses model → ⊥
  pub of_walks : (model : Call → List ℕ → After Answer) →
      ((f : ℕ) (t : List Byte) (a : List ℕ) → refusal_in (model (walk f t) a).answer ≡ 0 → ⊥) → Refuses model → ⊥

-- one device with no frame before it and four behind it: 5 and 6 both hold for its hop, and 5 is given
abbrev pub stuck : Loop
stuck = record { devices = power_on (0 ∷ 31 ∷ []) ∷ []; links = [] ∷ (0 ∷ 0 ∷ 0 ∷ 0 ∷ []) ∷ [] }

pub record LowestGiven : Type 0 where
  pub five : Empty (hop 0) (area_of stuck) ≡ true
  pub six : Full (hop 0) (area_of stuck) ≡ true
  pub given : refusal_in (pil (on_area (hop 0)) (area_of stuck)).answer ≡ 5

-- no bytes as the save and none as the area: 10 and 1 both hold for the opening, and 10 is given, as 02, a, has it
pub record TenFirst : Type 0 where
  pub ten : BadSave (opens []) ≡ true
  pub one : Shape (opens []) [] ≡ true
  pub given : refusal_in (pil (opens []) []).answer ≡ 10

-- a load with a choice that is none, for a device that is not there: 2 and 3 both hold, and 2 is given (02, h)
pub record ChoiceFirst : Type 0 where
  pub two : Unsound (on_area (local 1 (load [] 2))) (area_of stuck) ≡ true
  pub three : NoDevice (local 1 (load [] 2)) (area_of stuck) ≡ true
  pub given : refusal_in (pil (on_area (local 1 (load [] 2))) (area_of stuck)).answer ≡ 2

-- ---- Demand 2

-- the frame in a hop's answer, and the kind in a decoder's
abbrev pub frame_in : Answer → ℕ
frame_in (plain k) = 0
frame_in (hopped r) = r.frame
frame_in (taken r) = 0
frame_in (drained r) = 0
frame_in (owing r) = 0
frame_in (saving k out) = 0
frame_in (decoded r) = 0
frame_in (encoded r) = 0
frame_in (polled r) = 0
frame_in (walked r t) = 0

abbrev pub kind_in : Answer → ℕ
kind_in (plain k) = 0
kind_in (hopped r) = 0
kind_in (taken r) = 0
kind_in (drained r) = 0
kind_in (owing r) = 0
kind_in (saving k out) = 0
kind_in (decoded r) = r.kind
kind_in (encoded r) = 0
kind_in (polled r) = 0
kind_in (walked r t) = 0

-- No model whose decoder has one kind for every frame meets demand 2.
abbrev pub OneKindShutOut : Type 0
OneKindShutOut = (k : ℕ) (model : Call → List ℕ → After Answer) →
    ((f : ℕ) (a : List ℕ) → f < frames → kind_in (model (on_frame (decode f)) a).answer ≡ k) → Obeys model → ⊥

-- Nor one whose hops pass every frame untouched, by what they answer or by what they leave.
pub record PasserShutOut : Type 0 where
  pub answering : (model : Call → List ℕ → After Answer) →
      ((i f : ℕ) (fs a : List ℕ) → CanHop i f fs a → frame_in (model (on_area (hop i)) a).answer ≡ f) → Obeys model → ⊥
  pub leaving : (model : Call → List ℕ → After Answer) →
      ((i f : ℕ) (fs a : List ℕ) → CanHop i f fs a →
      link (loop_of (model (on_area (hop i)) a).area) (suc i) ≡ link (loop_of a) (suc i) ++ (f ∷ [])) → Obeys model → ⊥

-- Nor one whose first hop does the next device's work too.
abbrev pub WorkerShutOut : Type 0
WorkerShutOut = (model : Call → List ℕ → After Answer) →
    ((f : ℕ) (fs a : List ℕ) → CanHop 0 f fs a → 1 < count_in a →
    device (loop_of (model (on_area (hop 0)) a).area) 1 ≡ (takes (device (loop_of a) 1) (ruled 0 f a).frame).device) →
    Obeys model → ⊥

-- Nor one whose drains answer a number of hops that goes by the budget alone, 0 for doing nothing among them.
abbrev pub InventedCountShutOut : Type 0
InventedCountShutOut = (count : ℕ → ℕ) (model : Call → List ℕ → After Answer) →
    ((b : ℕ) (a : List ℕ) → hops_by (drain b) (model (on_area (drain b)) a).answer ≡ count b) → Obeys model → ⊥
