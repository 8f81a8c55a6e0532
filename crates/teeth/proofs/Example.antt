-- The worked example: both histories are computed on the bytes.
use Prim.Native.Nat.{zero, suc}
use mathlib.Core.Path.{refl}
use Rattle.frame.specs.Messages.{messages, kind_at, lookup, within, first_in, first_of}
use Rattle.frame.specs.Decoding.{has_c1, offset_in, c1_in}
use Rattle.device.specs.Choose.{choose}
use Rattle.device.specs.PowerOn.{power_on, bytes_from}
use Rattle.device.specs.Remote.{to_remote}
use Rattle.device.specs.Commands.{lad, tad, aau}
use Rattle.device.specs.Clear.{to_listener}
use Rattle.device.specs.Reply.{marked}
use Rattle.device.specs.Ready.{requested, polls, sst, nrd, aad}
use Rattle.device.specs.Data.{returned, heard, data_or_end}
use Rattle.device.specs.Take.{takes_simple, takes}
use Rattle.record_local.specs.Local.{loads}
use Rattle.record.specs.Record.{device_of, record_of, zeros}
use Rattle.record.specs.Sound.{sound_device, sound_record, allowed}
use Rattle.area.specs.Parts.{parts, join, all}
use Rattle.area.specs.Link.{frames_of, link_of, sound_slot, sound_link}
use Rattle.area.specs.Loop.{loop_of, area_of, shaped_with, sound, judge_with}
use Rattle.calls.specs.Outcome.{call_with}
use Rattle.calls.specs.Calls.{put_in, take_in, hop_in, local_in, load_in}
use Rattle.calls.specs.Drain.{can_hop, highest, drain_from}
use Rattle.calls.specs.SetUp.{is_items, item_width, items_fit, set_up_with}
use Rattle.saved.specs.Saved.{head_of, recorded, saved, stands, is_of, headed, formed, contents}
use Rattle.saved.specs.Older.{saved_before, upgrade, opened, sound_save}
use Rattle.saved.specs.Calls.{save_with, open_with}
use Rattle.demands.specs.Histories.{area_left}
use Rattle.demands.specs.Demands.{AllEmpty}
use Rattle.teeth.specs.Example.{fresh, mixed, Example}

empty : AllEmpty (area_left fresh mixed)
unfolding messages kind_at lookup within first_in first_of has_c1 offset_in c1_in choose power_on bytes_from to_remote lad tad
    aau to_listener marked requested polls sst nrd aad returned heard data_or_end takes_simple takes
    loads device_of record_of zeros
    sound_device sound_record allowed parts join all frames_of link_of sound_slot sound_link loop_of area_of shaped_with sound
    judge_with call_with put_in take_in hop_in local_in load_in is_items item_width items_fit set_up_with can_hop highest
    drain_from head_of recorded saved stands is_of headed formed contents upgrade opened sound_save save_with open_with
empty zero = refl
empty (suc zero) = refl
empty (suc (suc zero)) = refl
empty (suc (suc (suc j))) = refl

pub example : Example
unfolding messages kind_at lookup within first_in first_of has_c1 offset_in c1_in choose power_on bytes_from to_remote lad tad
    aau to_listener marked requested polls sst nrd aad returned heard data_or_end takes_simple takes
    loads device_of record_of zeros
    sound_device sound_record allowed parts join all frames_of link_of sound_slot sound_link loop_of area_of shaped_with sound
    judge_with call_with put_in take_in hop_in local_in load_in is_items item_width items_fit set_up_with can_hop highest
    drain_from head_of recorded saved stands is_of headed formed contents saved_before upgrade opened sound_save save_with
    open_with
example =
    record {
      set_up_lem = refl;
      all_empty = empty;
      begun_owes = refl;
      mixed_owes = refl;
      mixed_refused = refl;
      mixed_taken = refl;
      mixed_handed = refl;
      mixed_hops = refl;
      round_refused = refl;
      round_taken = refl;
      round_handed = refl;
      turned = refl;
      same_area = refl;
      saved_long = refl;
      saved_header = refl;
      saved_device = refl;
      saved_link = refl;
      old_opened = refl;
      opened_is = refl;
      turned_later = refl;
      later_hops = refl;
      later_taken = refl;
      later_area = refl;
    }
