-- Demand 3. A history gives a flow along the links, the flow can be had frame by frame, and that history has the same
-- frames and turns, so the two agree.
use native.Mathlib.Omega.{arith}
use mathlib.Core.Path.{◌≡◌, sym, ◌∙◌, ap}
use mathlib.Core.List.{List}
use Rattle.order.specs.Line.{Line, Loop, idle, devices, Call, Event, run}
use Rattle.order.specs.History.{puts, turns}
use Rattle.order.specs.RightRound.{first}
use Rattle.order.specs.Order.{SameAs, AnyOrder, FromAnyLoop, Agree}
use Rattle.order.specs.Flat.{states_of}
use Rattle.order.proofs.Streams.{Steps, run_ok, steps_flows, steps_count}
use Rattle.order.proofs.Idle.{idle_empty, idle_owed, idle_devices, idle_states, idle_round}
use Rattle.order.proofs.Agree.{two_ways}
use Rattle.order.proofs.Owed.{owed_law}
use Rattle.order.proofs.Rounds.{Reference, all_rounds}

module _ (L : Line) where
  open L use {State}

  steps_of : {l l' : Loop L} {es : List (Event L)} (cs : List (Call L)) → run l cs ≡ (l', es) → Steps l es l'
  steps_of {l = l} cs e = rw e at (run_ok l cs)

  pub agree : Agree L
  agree l ss₁ ss₂ cs₁ cs₂ es₁ es₂ e₁ e₂ p t =
      let u = two_ways (steps_of cs₁ e₁) (steps_of cs₂ e₂) (idle_empty L ss₁) (idle_empty L ss₂) p t in (
        sym (idle_states L ss₁) ∙ ap (λ l. states_of l) u.0 ∙ idle_states L ss₂,
        u.1,
        u.2,
        omega (arith, rw p at (owed_law L _ _ cs₁ es₁ e₁), owed_law L _ _ cs₂ es₂ e₂, idle_owed L ss₁, idle_owed L ss₂),
      )

  same_as : {l : Loop L} {ref : List (Call L)} {es : List (Event L)} (ss' : List State) → Steps l es (idle ss')
      → Reference (turns es) (puts es) ref l (idle ss') → SameAs l ref (idle ss') es
  same_as {ref = ref} ss' u v =
      let z = idle_empty L ss' in
      let g = two_ways (steps_of ref v.ran) u z z v.same_puts v.same_turns in record {
        events = v.es;
        ran = v.ran;
        accepted = v.accepted;
        same_puts = v.same_puts;
        same_turns = v.same_turns;
        same_taken = g.1;
        same_handed = g.2;
      }

  pub from_any_loop : FromAnyLoop L
  from_any_loop l ss' cs es e =
      let u : Steps l es (idle ss') = steps_of cs e in
      (same_as ss' u (all_rounds (steps_flows u) (idle_empty L ss')), omega (arith, steps_count u, idle_owed L ss'))

  -- a loop just set up owes nothing, and none of its frames goes first
  pub any_order : AnyOrder L
  any_order ss ss' cs es e =
      let u = from_any_loop (idle ss) ss' cs es e in (
        rw (idle_round L ss (puts es) (first (devices {L = L} (idle ss)) (turns es)), idle_devices L ss) at u.0,
        omega (arith, rw (idle_devices L ss) at u.1, idle_owed L ss),
      )
