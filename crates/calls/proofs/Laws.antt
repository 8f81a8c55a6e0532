-- The laws of the calls: a contract leaves one answer, a call on an area is its call on the loop, every call keeps.
use mathlib.Core.Path.{refl, sym, ◌∙◌}
use mathlib.Core.Bool.{Bool, true, false, cond}
use Rattle.device.specs.Device.{is_choice}
use Rattle.keeps.proofs.Keeps.{load_good, status_good, wish_good, key_good, poll_status_good}
use Rattle.area.proofs.Areas.{holds_of}
use Rattle.calls.specs.Outcome.{refuse, loop_after}
use Rattle.calls.specs.Calls.{local_in, load_in}
use Rattle.calls.specs.Laws.{Unique, CallOnLoop, Kept, AreaAfter, LoadKeeps, StatusKeeps, WishKeeps}
use Rattle.calls.specs.Laws.{KeyKeeps, PollStatusKeeps}
use Rattle.record_local.specs.Local.{loads, sets_status, wishes, presses, sets_poll_status}
use Rattle.area.specs.Loop.{unsound}
use Rattle.calls.proofs.Outcomes.{call_done}
use Rattle.calls.proofs.Kept.{local_keeps}
use Rattle.calls.proofs.Turns.{after_area}

pub unique : Unique
unique A o r s x y p q = (p.0 ∙ sym q.0, p.1 ∙ sym q.1)

pub call_on_loop : CallOnLoop
call_on_loop A deny call l s = let h = holds_of l s in rw (call_done deny call _ h.judged, h.held)

pub area_after : AreaAfter
area_after A deny call keeps l s =
    rw (call_on_loop A deny call l s, after_area deny l _ (call l) (holds_of l s).written)
    (holds_of (loop_after l (call l)) (keeps l s).sound)

pub load_keeps : LoadKeeps
unfolding load_in
load_keeps i bs e small l s = go (is_choice e)
  where
    go : (t : Bool) → Kept l (loop_after l (cond t (local_in (λ d. loads d bs e) i l) (refuse unsound)))
    go true = local_keeps (λ d. loads d bs e) (λ d g. load_good d bs e small g) i l s
    go false = record { sound = s; same = refl }

pub status_keeps : StatusKeeps
status_keeps i s small = local_keeps (λ d. sets_status d s) (λ d g. status_good d s small g) i

pub wish_keeps : WishKeeps
wish_keeps i w = local_keeps (λ d. wishes d w) (λ d g. wish_good d w g) i

pub key_keeps : KeyKeeps
key_keeps i = local_keeps presses key_good i

pub poll_status_keeps : PollStatusKeeps
poll_status_keeps i s = local_keeps (λ d. sets_poll_status d s) (λ d g. poll_status_good d s g) i
