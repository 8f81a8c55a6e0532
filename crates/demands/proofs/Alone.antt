-- One frame is alone on its way round an idle line: each device takes what the one before it sent, as it does in a
-- walk, finds room in the next link, and leaves its own empty.
use Prim.Native.Nat.{ℕ, suc}
use mathlib.Core.Path.{◌≡◌, refl, ap, ◌∙◌}
use mathlib.Core.Option
use mathlib.Core.Option.{Option, none, some}
use mathlib.Core.List.{List, [], ◌∷◌, ◌++◌, map, map-append, append-nil}
use native.Mathlib.Omega.{arith}
use lib.ListN.{length, replicate}
use Rattle.device.specs.Take.{takes}
use Rattle.device.specs.Sent.{Sent}
use Rattle.device.specs.declared.Device.{Device}
use Rattle.device.specs.declared.Handed.{Handed}
use Rattle.device.specs.declared.Handed.TheVariants as handed
use Rattle.area.specs.Parts.{join}
use Rattle.calls.specs.Calls.{hop_answer}
use Rattle.calls.specs.declared.HopAnswer.{HopAnswer}
use Rattle.order.specs.Line as line
use Rattle.order.specs.History as told
use Rattle.order.specs.RightRound.{past as hopsPast}
use Rattle.order.proofs.Idle.{onto, push_onto, idle_empty}
use Rattle.order.proofs.Moves.{Moves, no_move, by_hop, by_take, one_more, moves_run, shift, shift_e, in_front, past_next}
use Rattle.walk.specs.Walk.{past, out_of, four_bytes, told_of}
use Rattle.demands.specs.Histories.{Got, got, reported, handed_over, papers}

-- the devices that a walk leaves
abbrev pub left : List Device → ℕ → List Device
left ds f = map (λ (s : Sent). s.device) (past ds f)

-- what happens to a frame in link i, the first of these devices before it
abbrev pub happens : ℕ → List Device → ℕ → List (line.Event papers)
happens i [] f = line.was_taken f ∷ []
happens i (d ∷ ds) f = line.hopped i (handed_over (takes d f).handed) ∷ happens (suc i) ds (takes d f).frame

happens_next : (i : ℕ) (ds : List Device) (f : ℕ) → map shift_e (happens i ds f) ≡ happens (suc i) ds f
happens_next i [] f = refl
happens_next i (d ∷ ds) f =
    ap (λ (es : List (line.Event papers)). line.hopped (suc i) (handed_over (takes d f).handed) ∷ es)
    (happens_next (suc i) ds (takes d f).frame)

-- the hops of n devices, and the take
abbrev pub round : ℕ → ℕ → List (line.Call papers)
round i n = hopsPast i (replicate n []) ++ line.take ∷ []

round_next : (i n : ℕ) → map shift (round i n) ≡ round (suc i) n
round_next i n = map-append shift (hopsPast i (replicate n [])) (line.take ∷ []) ∙ rw (past_next i (replicate n []))

goes : (ds : List Device) (f : ℕ) →
    Moves (onto (line.idle ds) f) (round 0 (length ds)) (happens 0 ds f) (line.idle (left ds f))
unfolding past
goes [] f = by_take refl no_move
goes (d ∷ ds) f =
    by_hop 0
    (ap (λ (o : Option (line.Loop papers)). Option.map
    (λ r. (line.cell [] (takes d f).device r, handed_over (takes d f).handed)) o)
    (push_onto (line.idle ds) (takes d f).frame (idle_empty papers ds)))
    (rw (round_next 0 (length ds), happens_next 0 ds (takes d f).frame) at
    (in_front [] (takes d f).device (goes ds (takes d f).frame)))

goes_run : (ds : List Device) (f : ℕ) →
    line.run (onto (line.idle ds) f) (round 0 (length ds)) ≡ (line.idle (left ds f), happens 0 ds f)
goes_run ds f =
    rw (append-nil (round 0 (length ds)), append-nil (happens 0 ds f)) at (moves_run [] [] (goes ds f) refl)

pub put_run : (ds : List Device) (f : ℕ) →
    line.run (line.idle ds) (line.put f ∷ round 0 (length ds)) ≡
    (line.idle (left ds f), line.was_put f ∷ happens 0 ds f)
put_run ds f =
    one_more (line.idle ds) (onto (line.idle ds) f) (line.idle (left ds f)) (line.put f) (round 0 (length ds))
    (line.was_put f) (happens 0 ds f)
    (ap (λ (o : Option (line.Loop papers)). line.reply (line.idle ds) (Option.map (λ l. (l, line.was_put f)) o))
    (push_onto (line.idle ds) f (idle_empty papers ds)))
    (goes_run ds f)

-- ---- what is read of that

pub none_refused : (i : ℕ) (ds : List Device) (f : ℕ) → told.refusals (happens i ds f) ≡ 0
none_refused i [] f = refl
none_refused i (d ∷ ds) f = omega (arith, none_refused (suc i) ds (takes d f).frame)

pub taken_out : (i : ℕ) (ds : List Device) (f : ℕ) → told.taken (happens i ds f) ≡ out_of ds f ∷ []
unfolding out_of
taken_out i [] f = refl
taken_out i (d ∷ ds) f = taken_out (suc i) ds (takes d f).frame

-- four bytes of what a device got
abbrev pub told_got : Option Got → List ℕ
told_got none = 0 ∷ 0 ∷ 0 ∷ 0 ∷ []
told_got (some (got b e)) = 1 ∷ b ∷ e ∷ 0 ∷ []
told_got (some (reported k)) = 0 ∷ 0 ∷ 0 ∷ k ∷ []

abbrev pub told_on : line.Event papers → List ℕ
told_on line.refused = []
told_on (line.was_put f) = []
told_on (line.hopped i h) = told_got h
told_on (line.was_taken f) = []
told_on (line.called i c) = []

-- the four bytes of the hop's answer are those
abbrev pub ToldAs : HopAnswer → Option Got → Type 0
ToldAs r h = (r.refusal ≡ 0) × (four_bytes r ≡ told_got h)

pub told_as : (f : ℕ) (h : Handed) → ToldAs (hop_answer f h) (handed_over h)
told_as f handed.Nothing = (refl, refl)
told_as f (handed.Byte b e) = (refl, refl)
told_as f handed.Clear = (refl, refl)
told_as f handed.Trigger = (refl, refl)

pub told_on_lem : (i : ℕ) (ds : List Device) (f : ℕ) →
    told.each told_on (happens i ds f) ≡ join (map (λ (s : Sent). told_of s.handed) (past ds f))
unfolding past join
told_on_lem i [] f = refl
told_on_lem i (d ∷ ds) f = rw (← (told_as 0 (takes d f).handed).1, told_on_lem (suc i) ds (takes d f).frame)
