-- What a device does with a frame of each kind: a rule a kind, and every kind without a rule goes on unchanged; and the
-- choice between the two variants of a device (02, i). A frame is decoded here, and the rules take its address, sense
-- and bit, data bits, end bit and C1 from that (02, g).
use Rattle.std.specs.Prelude.{ℕ, List, [], ◌∷◌, eqb}
use Rattle.frame.specs.declared.Kind.{Kind}
use Rattle.frame.specs.declared.Kind.TheVariants.{Dab, End, Lad, Unl, Tad, Unt, Ifc, Aau, Nrd, Sda, Sst, Sdi, Sai, Aad}
use Rattle.frame.specs.declared.Kind.TheVariants.{Idy, Gtl, Sdc, Get, Llo, Dcl, Ren, Nre, Ppe, Ppd, Ppu, Sad, Aes, Aep}
use Rattle.frame.specs.Messages.{number_of}
use Rattle.frame.specs.Decoding.{decoded}
use Rattle.frame.specs.declared.Message.{Message}
use Rattle.device.specs.Choose.{choose}
use Rattle.device.specs.Device.{send_data, device_id, accessory_id, extended, sending_data, sending_device_id}
use Rattle.device.specs.Device.{sending_accessory_id, has_further}
use Rattle.device.specs.Commands.{lad, unl, tad, unt, ifc, aau}
use Rattle.device.specs.Clear.{dcl, sdc, get}
use Rattle.device.specs.Remote.{ren, nre, llo, gtl}
use Rattle.device.specs.Poll.{ppe, ppd, ppu}
use Rattle.device.specs.Reply.{sends}
use Rattle.device.specs.Ready.{requested, sst, nrd, aad}
use Rattle.device.specs.Data.{data_or_end, idy}
use Rattle.device.specs.Extended.{heeding, extended_lad, extended_tad, sad, extended_aau, aes, aep}
use Rattle.device.specs.declared.Device.{Device}
use Rattle.device.specs.Sent.{Sent}

pub record Rule : Type 0 where
  pub kind : ℕ
  pub gives : Sent

abbrev pub on : Kind → Sent → Rule
on k s = record { kind = number_of k; gives = s }

-- the rules of a simple device for the frame f, decoded as m
abbrev pub rules : Device → ℕ → Message → List Rule
rules d f m =
    on Lad (sends (lad d m.offset) f) ∷
    on Unl (sends (unl d) f) ∷
    on Tad (sends (tad d m.offset) f) ∷
    on Unt (sends (unt d) f) ∷
    on Ifc (sends (ifc d) f) ∷
    on Aau (sends (aau d) f) ∷
    on Dcl (dcl d f) ∷
    on Sdc (sdc d f) ∷
    on Get (get d f) ∷
    on Ren (sends (ren d) f) ∷
    on Nre (sends (nre d) f) ∷
    on Llo (sends (llo d) f) ∷
    on Gtl (sends (gtl d) f) ∷
    on Ppe (sends (ppe d m.offset) f) ∷
    on Ppd (sends (ppd d) f) ∷
    on Ppu (sends (ppu d) f) ∷
    on Sda (requested d f send_data sending_data) ∷
    on Sst (sst d f) ∷
    on Sdi (requested d f device_id sending_device_id) ∷
    on Sai (requested d f accessory_id sending_accessory_id) ∷
    on Nrd (sends (nrd d) f) ∷
    on Aad (aad d f m.offset) ∷
    on Dab (data_or_end d m) ∷
    on End (data_or_end d m) ∷
    on Idy (idy d m) ∷
    []

-- what the rule of kind k gives; s where there is none
abbrev pub select : ℕ → List Rule → Sent → Sent
select k [] s = s
select k (r ∷ rs) s = choose (eqb k r.kind) r.gives (select k rs s)

unfoldable pub takes_simple : Device → ℕ → Sent
takes_simple d f = select (decoded f).kind (rules d f (decoded f)) (sends d f)

-- the rules that an extended device has in place of those: AAD, which is not for it, goes on
abbrev pub extended_rules : Device → ℕ → Message → List Rule
extended_rules d f m =
    on Lad (sends (extended_lad d m.offset) f) ∷
    on Tad (sends (extended_tad d m.offset) f) ∷
    on Sad (sends (sad d m.offset) f) ∷
    on Aau (sends (extended_aau d) f) ∷
    on Aad (sends d f) ∷
    on Aes (aes d f m.offset) ∷
    on Aep (sends (aep d m.offset) f) ∷
    []

-- and what else it takes it takes as a simple one, where `heeding` has it begin
unfoldable pub takes_extended : Device → ℕ → Sent
takes_extended d f =
    select (decoded f).kind (extended_rules d f (decoded f)) (takes_simple (heeding d (decoded f).kind) f)

-- a device takes a frame by the rules of its variant
unfoldable pub takes : Device → ℕ → Sent
takes d f = choose (has_further d extended) (takes_extended d f) (takes_simple d f)
