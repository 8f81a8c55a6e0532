-- Polls in any order: each link carries one stream of IDYs, and a device turns the stream of its link into that of the
-- next by its own turns alone, its answer or-ed to each. An IDY leaves a device as it was.
use Prim.Native.Nat.{ℕ, suc}
use mathlib.Core.Path.{◌≡◌, refl, sym, ap, ◌∙◌}
use mathlib.Core.Bool.{Bool, true, false, cond}
use mathlib.Core.Option.{none, some}
use mathlib.Core.List.{List, [], ◌∷◌, ◌++◌, map, append-nil}
use lib.Bits.{bit_or}
use lib.Dec.{eqb}
use Rattle.frame.specs.Classes.{IsIdentify}
use Rattle.device.specs.Poll.{answer}
use Rattle.device.specs.PollSentences.{polled_by}
use Rattle.device.specs.declared.Device.{Device}
use Rattle.device.proofs.Sentences.{idy_goes_on}
use Rattle.device.proofs.Assigned.{assigned_by, only_listeners}
use Rattle.device.proofs.PollSentences.{leaves_poll, idy_bits, idy_c1, shared_or, shared_and}
use Rattle.device.proofs.PollTable.{note_5, rack_reads}
use Rattle.record.proofs.Laws.{any_poll, no_poll}
use Rattle.record_local.specs.Local.{Called}
use Rattle.order.specs.Line as line
use Rattle.order.specs.Flat as flat
use Rattle.order.specs.History.{Turn, hops, does, calls_in}
use Rattle.order.specs.RightRound.{before, after as after_turn}
use Rattle.order.specs.Through.{Every}
use Rattle.order.proofs.Idle.{Empty}
use Rattle.order.proofs.Streams.{Ran, stays, hopping, acting, Flows, at_tail, at_cell}
use Rattle.demands.specs.Calls.{called_by}
use Rattle.demands.specs.Histories.{Step, accepted_by, papers, area_left}
use Rattle.demands.specs.Demands.{answering, answering_all, bits_of, Polls, PolledRound, AsTheyStood, ParallelPoll}
use Rattle.demands.proofs.Flowing.{line_states, line_empty, left_judged, flows}

-- ---- one device

-- what an accepted call leaves
pub accepted : (c : Called) {e : Device} → accepted_by c ≡ some e → e ≡ c.device
accepted c h = go (eqb c.refusal 0) h
  where
    go : (t : Bool) {e : Device} → cond t (some c.device) none ≡ some e → e ≡ c.device
    go true h = cc
    go false h = cc

-- the IDYs ys, with these data bits
record Gathered (ys xs : List ℕ) : Type 0 where
  idys : Every IsIdentify ys
  bits : map bits_of ys ≡ xs

ran_polls : {s s' : Device} {ts : List (Turn papers)} {xs ys : List ℕ} {hs : List _} →
    Ran {L = papers} s ts xs s' ys hs → Every IsIdentify xs → Gathered ys (answering s ts (map bits_of xs))
ran_polls stays u = record { idys = tt; bits = refl }
ran_polls (hopping {s = s} {f = f} {ts = ts} {xs = xs} r) u =
    let g = ran_polls r u.1 in
    record {
      idys = (idy_goes_on.still_idy s f u.0, g.idys);
      bits = rw (idy_goes_on.answered_bits s f u.0, g.bits, idy_goes_on.same_device s f u.0);
    }
ran_polls (acting {s = s} {c = c} {ts = ts} {xs = xs} e r) u =
    let g = ran_polls r u in
    record { idys = g.idys; bits = g.bits ∙ rw (accepted (called_by c s) e) (go (map bits_of xs)) }
  where
    go : (zs : List ℕ) → answering (called_by c s).device ts zs ≡ answering s (does c ∷ ts) zs
    go [] = refl
    go (z ∷ zs) = refl

-- ---- all devices

-- all that went into a link that was and is empty came out of it
through : {A : Type 0} (q X xs q' : List A) → q ++ X ≡ xs ++ q' → q ≡ [] → q' ≡ [] → xs ≡ X
through q X xs q' e z z' = cc (append-nil xs)

flow_polls : {T : ℕ → List (Turn papers)} {G : ℕ → List _} {o X : List ℕ} {l l' : line.Loop papers} →
    Flows {L = papers} T G o X l l' → Empty l → Empty l' → Every IsIdentify X →
    Gathered o (answering_all (flat.states_of l) T (map bits_of X))
flow_polls (at_tail {o = o} {X = X} {q = q} {q' = q'} t g e) z z' u =
    rw (through q X o q' e z z') (record { idys = u; bits = refl })
flow_polls (at_cell {X = X} {q = q} {q' = q'} xs ys e a k) z z' u =
    let x = through q X xs q' e z.0 z'.0 in
    let g = ran_polls a (rw x u) in
    let h = flow_polls k z.1 z'.1 g.idys in
    record { idys = h.idys; bits = rw (g.bits, x) at h.bits }

polled_round : (a : List ℕ) (ss : List Step) → Polls a ss → PolledRound a ss
polled_round a ss p =
    let j = p.judged in
    let g = flow_polls (flows a j ss) (line_empty a j p.empty)
    (line_empty (area_left a ss) (left_judged a j ss) p.empty_again) p.idys in
    record { still_idys = g.idys; gathered = rw (line_states a j) at g.bits }

-- ---- without local calls

-- nothing is called before the next hop, nor after it
quiet : (ts : List (Turn papers)) → calls_in ts ≡ [] → (before ts ≡ []) × (calls_in (after_turn ts) ≡ [])
quiet [] h = (refl, refl)
quiet (hops ∷ ts) h = (refl, h)
quiet (does c ∷ ts) h = (cc, cc)

still : (d : Device) (ts : List (Turn papers)) (xs : List ℕ) → calls_in ts ≡ [] →
    answering d ts xs ≡ map (λ x. bit_or x (answer d)) xs
still d ts [] h = refl
still d ts (x ∷ xs) h =
    let q = quiet ts h in rw q.0 (ap (λ (r : List ℕ). bit_or x (answer d) ∷ r) (still d (after_turn ts) xs q.1))

pub as_they_stood : AsTheyStood
as_they_stood [] T xs h = sym (same xs)
  where
    same : (xs : List ℕ) → map (λ x. x) xs ≡ xs
    same [] = refl
    same (x ∷ xs) = ap (λ (r : List ℕ). x ∷ r) (same xs)
as_they_stood (d ∷ ds) T xs h =
    rw (still d (T 0) xs (h 0))
    (as_they_stood ds (λ i. T (suc i)) (map (λ x. bit_or x (answer d)) xs) (λ i. h (suc i)) ∙ twice xs)
  where
    twice : (xs : List ℕ) →
        map (λ x. polled_by x ds) (map (λ x. bit_or x (answer d)) xs) ≡ map (λ x. polled_by (bit_or x (answer d)) ds) xs
    twice [] = refl
    twice (x ∷ xs) = ap (λ (r : List ℕ). polled_by (bit_or x (answer d)) ds ∷ r) (twice xs)

pub parallel_poll : ParallelPoll
parallel_poll =
    record {
      note_5 = note_5;
      idy_bits = idy_bits;
      idy_c1 = idy_c1;
      assigning = assigned_by;
      only_listeners = only_listeners;
      leaves_poll = leaves_poll;
      polled_round = polled_round;
      as_they_stood = as_they_stood;
      shared_or = shared_or;
      shared_and = shared_and;
      rack_reads = rack_reads;
      any_poll = any_poll;
      no_poll = no_poll;
    }
