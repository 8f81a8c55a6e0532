-- The drain (01, The calls; 02, d): the highest-numbered device that can hop does, repeatedly.
use Rattle.std.specs.Prelude.{ℕ, zero, suc, List, Bool, false, cond, eqb, Option, Some, None, is_some}
use Rattle.area.specs.Loop.{Loop, size, link}
use Rattle.area.specs.Lookup.{oldest_of, room_of}
use Rattle.calls.specs.Outcome.{Outcome, refuse, done, After, call_of}
use Rattle.calls.specs.Calls.{no_event, hop_in}
use Rattle.calls.specs.declared.HopAnswer.{HopAnswer}
use Rattle.calls.specs.declared.DrainAnswer.{DrainAnswer}

-- why it stopped: no hop is possible, the budget is spent, a byte was handed over, a clear or trigger was reported
abbrev pub no_hop_left : ℕ
no_hop_left = 0

abbrev pub budget_spent : ℕ
budget_spent = 1

abbrev pub byte_handed : ℕ
byte_handed = 2

abbrev pub event_reported : ℕ
event_reported = 3

abbrev pub no_drain : ℕ → DrainAnswer
no_drain k = record { hops = 0; refusal = k; reason = 0; device = 0; byte = 0; end = 0 }

-- device i can hop: there is a frame for it, and room for the one that it sends
abbrev pub can_from : ℕ → Loop → Option ℕ → Bool
can_from i l None = false
can_from i l (Some f) = is_some (room_of (link l (suc i)))

unfoldable pub can_hop : ℕ → Loop → Bool
can_hop i l = can_from i l (oldest_of (link l i))

-- the highest-numbered of the first k devices that can hop
unfoldable pub highest : ℕ → Loop → Option ℕ
highest zero l = None
highest (suc k) l = let r = highest k l in cond (can_hop k l) (Some k) r

-- it stops before a hop, after h hops
abbrev pub stopped : ℕ → ℕ → Loop → Outcome DrainAnswer
stopped why h l = done (record { hops = h; refusal = 0; reason = why; device = 0; byte = 0; end = 0 }) l

-- it stops just after a hop of device i that handed a byte
abbrev pub handed_to : ℕ → ℕ → HopAnswer → Loop → Outcome DrainAnswer
handed_to i h r l = done
    (record { hops = h; refusal = 0; reason = byte_handed; device = i; byte = r.byte; end = r.end }) l

-- or one that reported a clear or trigger, which is answered as the byte
abbrev pub reported_by : ℕ → ℕ → HopAnswer → Loop → Outcome DrainAnswer
reported_by i h r l = done
    (record { hops = h; refusal = 0; reason = event_reported; device = i; byte = r.event; end = 0 }) l

-- device i's hop, after h others: it can hop, so it is not refused; the drain stops where a byte was handed, then where
-- something was reported, and else goes on
abbrev pub turned : ℕ → ℕ → (Loop → Outcome DrainAnswer) → Loop → Outcome HopAnswer → Outcome DrainAnswer
turned i h next l (refuse k) = stopped no_hop_left h l
turned i h next l (done r m) =
    cond (eqb r.handed 1) (handed_to i (suc h) r m)
    (cond (eqb r.event no_event) (next m) (reported_by i (suc h) r m))

-- one thing where there is no device, another by the device's number
abbrev pub on_place : {A : Type 0} → A → (ℕ → A) → Option ℕ → A
on_place none some None = none
on_place none some (Some i) = some i

-- with a budget of b more hops, after h
unfoldable pub drain_from : ℕ → ℕ → Loop → Outcome DrainAnswer
drain_from zero h l = on_place (stopped no_hop_left h l) (λ i. stopped budget_spent h l) (highest (size l) l)
drain_from (suc b) h l =
    on_place (stopped no_hop_left h l) (λ i. turned i h (drain_from b (suc h)) l (hop_in i l)) (highest (size l) l)

abbrev pub drain_in : ℕ → Loop → Outcome DrainAnswer
drain_in b l = drain_from b 0 l

abbrev pub drain_of : List ℕ → ℕ → After DrainAnswer
drain_of a b = call_of no_drain (drain_in b) a
