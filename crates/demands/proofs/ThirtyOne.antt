-- Every call goes by the limit through one definition, and the laws over any two limits say of each that it is the same
-- at the limit before 02, j, and at the one that holds.
use Prim.Native.Nat.{ℕ}
use mathlib.Core.Path.{◌≡◌, refl, ap, ◌∙◌}
use mathlib.Core.List.{List}
use native.Mathlib.Omega.{arith}
use lib.ListN.{length}
use Rattle.area.specs.Sizes.{most_devices, area_size}
use Rattle.area.specs.Loop.{Loop, size, area_of, judge_of}
use Rattle.area.specs.Lookup.{blank_of}
use Rattle.area.proofs.Areas.{sized, judge_zero, is_shaped}
use Rattle.area.proofs.Blank.{blank_sound}
use Rattle.area.proofs.Laws.{area_sound, loop_back}
use Rattle.calls.specs.Outcome.{After, after, reads}
use Rattle.calls.specs.Calls.{refusal, put_in, no_take, take_in, no_hop, hop_in}
use Rattle.calls.specs.Drain.{no_drain, drain_in}
use Rattle.calls.specs.Owed.{no_owed, owed_in}
use Rattle.calls.specs.declared.OwedAnswer.{OwedAnswer}
use Rattle.limits.specs.Limits.{FewIn, Agree}
use Rattle.limits.proofs.Limits.{limits_agree, more_refused}
use Rattle.demands.specs.Calls.{numbers, local_by, Action, put, hop, take, local, drain, owes, save, Call}
use Rattle.demands.specs.Calls.{on_area, set_up, opens, on_frame, plain, hopped, taken, drained, owing}
use Rattle.demands.specs.Calls.{saving, walk, told, acts_with, pil_with, acts, pil}
use Rattle.demands.specs.Demands.{former_most, FewFor, ThirtyOne}
use Rattle.demands.proofs.Walks.{walk_alike}

judged : judge_of (area_of (blank_of most_devices)) ≡ 0
judged = area_sound (blank_of most_devices) (blank_sound most_devices (omega arith) (omega arith))

long : length (area_of (blank_of most_devices)) ≡ area_size most_devices
long =
    (sized (area_of (blank_of most_devices)) judged).long
    ∙ ap (λ (l : Loop). area_size (size l))
    (loop_back (blank_of most_devices) (blank_sound most_devices (omega arith) (omega arith)))

agree : Agree former_most most_devices
agree = limits_agree former_most most_devices (omega arith)

acts_alike : (c : Action) (a : List ℕ) → FewIn former_most a → acts_with former_most c a ≡ acts c a
acts_alike (put f) a few = ap (told plain) (agree.called _ refusal (put_in f) a few)
acts_alike (hop i) a few = ap (told hopped) (agree.called _ no_hop (hop_in i) a few)
acts_alike take a few = ap (told taken) (agree.called _ no_take take_in a few)
acts_alike (local i c) a few = ap (told plain) (agree.called _ refusal (local_by c i) a few)
acts_alike (drain b) a few = ap (told drained) (agree.called _ no_drain (drain_in b) a few)
acts_alike owes a few =
    ap (λ (o : After OwedAnswer). after (owing o.answer) a) (agree.called _ no_owed (reads owed_in) a few)
acts_alike (save out) a few =
    ap (λ (o : After ℕ). after (saving o.answer o.area) a) (agree.saving a (numbers out) few)

alike : (c : Call) (a : List ℕ) → FewFor former_most c a → pil_with former_most c a ≡ pil c a
alike (on_area c) a few = acts_alike c a few
alike (set_up items) a few = ap (told plain) (agree.set_up_lem a (numbers items) few)
alike (opens s) a few = ap (told plain) (agree.opening a (numbers s) few)
alike (on_frame c) a few = refl
alike (walk f t) a few = walk_alike f t a few

pub thirty_one : ThirtyOne
thirty_one =
    record {
      longest = (judged, long);
      none_longer = λ a h. let s = is_shaped a (judge_zero a h).0 in omega (arith, s.few, s.long);
      as_before = agree;
      called_as_before = alike;
      refused_before = more_refused former_most;
    }
