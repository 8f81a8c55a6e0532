-- Whatever the order of its calls, a history on an area that has no refusal is a flow of frames along the line of its
-- devices (order, Streams), and leaves an area that has none; what holds of the area's devices and links holds of the
-- line's.
use Prim.Native.Nat.{ℕ, suc}
use mathlib.Core.Path.{◌≡◌, ap, ◌∙◌}
use mathlib.Core.List.{List, []}
use lib.ListN.{get_or}
use Rattle.area.specs.Loop.{Loop, count_in, loop_of, area_of, link, SoundLoop}
use Rattle.order.specs.Line as line
use Rattle.order.specs.Flat as flat
use Rattle.order.specs.History as told
use Rattle.order.specs.Through.{calls_of}
use Rattle.order.proofs.Idle.{Empty}
use Rattle.order.proofs.Streams.{Flows, run_ok, steps_flows}
use Rattle.demands.specs.Histories.{Step, papers, all_calls, line_of, area_left, frames_put, frames_taken, turns_of}
use Rattle.demands.specs.Demands.{Judged, AllEmpty, StaysJudged}
use Rattle.demands.proofs.Bridge.{to_loop}
use Rattle.demands.proofs.Rendered.{R, same_calls, line_is, area_is, good_is, puts_are, taken_are}
use Rattle.demands.proofs.Lined.{devices_are, line_judged, loop_is, line_good, line_area}

links_empty : (l : line.Loop papers) → ((j : ℕ) → get_or (flat.links_of l) j [] ≡ []) → Empty l
links_empty (line.tail q) h = h 0
links_empty (line.cell q s r) h = (h 0, links_empty r (λ j. h (suc j)))

-- ---- an area and its line

module _ (a : List ℕ) (j : Judged a) where
  pub line_count : count_in a ≡ line.devices (line_of a)
  line_count = rw (line_area a j) at (devices_are (line_of a) (line_good a j))

  pub line_states : flat.states_of (line_of a) ≡ (loop_of a).devices
  line_states = ap (λ (m : Loop). m.devices) (loop_is a j)

  pub line_empty : AllEmpty a → Empty (line_of a)
  line_empty e = links_empty (line_of a) (λ i. ap (λ (m : Loop). link m i) (loop_is a j) ∙ e i)

  -- ---- after a history

  module _ (ss : List Step) where
    abbrev end : line.Loop papers
    end = (line.run (line_of a) (calls_of R ss)).0

    end_good : SoundLoop (to_loop end)
    end_good = good_is (line_of a) (line_good a j) ss

    end_area : area_left a ss ≡ area_of (to_loop end)
    end_area = rw (line_area a j) at (area_is (line_of a) (line_good a j) ss)

    pub left_judged : Judged (area_left a ss)
    left_judged = rw end_area (line_judged end end_good)

    end_line : line_of (area_left a ss) ≡ end
    end_line = ap line_of end_area ∙ line_is end end_good

    pub flows : Flows (turns_of a ss) (told.handed (line.run (line_of a) (all_calls ss)).1) (frames_taken a ss)
        (frames_put a ss) (line_of a) (line_of (area_left a ss))
    flows =
        let x = rw (line_area a j) at (puts_are (line_of a) (line_good a j) ss) in
        let o = rw (line_area a j) at (taken_are (line_of a) (line_good a j) ss) in
        rw (same_calls ss, end_line, x, o) (steps_flows (run_ok (line_of a) (calls_of R ss)))

pub stays_judged : StaysJudged
stays_judged a ss j = left_judged a j ss
