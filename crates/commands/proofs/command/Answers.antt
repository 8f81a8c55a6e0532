-- Each command's arm is its rule, and no other command has one.
use mathlib.Core.Path.{refl, sym, ap, ◌∙◌}
use borrow.Enum.Refused.{opened}
use Rattle.frame.specs.declared.Kind.TheVariants.{Gtl, Sdc, Get, Llo, Dcl, Lad, Unl, Tad, Unt, Ifc, Ren, Nre, Aau}
use Rattle.frame.specs.declared.Kind.TheVariants.{Ppe, Ppd, Ppu}
use Rattle.frame.specs.Messages.{number_of, messages, first_in, first_of, codes_in, codes_of}
use Rattle.frame.specs.Decoding.{has_c1}
use Rattle.device.specs.Choose.{choose}
use Rattle.device.proofs.Arms.{arms}
use Rattle.device.proofs.Classes.{ppe_number}
use Rattle.device.proofs.Dispatch.{listed, other, coded_as}
use Rattle.record.specs.Record.{device_of}
use Rattle.commands.proofs.command.Goals as goal

-- the kind that an arm names is the frame's
pub offset_of-requires : goal.offset_of-requires
unfolding choose messages first_in first_of codes_in codes_of has_c1
offset_of-requires c = coded_as Lad _ c.kind_of.ensures c.in-Lad.is refl refl

pub offset_of-requires-in-Tad : goal.offset_of-requires-in-Tad
unfolding choose messages first_in first_of codes_in codes_of has_c1
offset_of-requires-in-Tad c = coded_as Tad _ c.kind_of.ensures c.in-Tad.is refl refl

pub offset_of-requires-in-Ppe : goal.offset_of-requires-in-Ppe
unfolding choose messages first_in first_of codes_in codes_of has_c1
offset_of-requires-in-Ppe c = coded_as Ppe _ c.kind_of.ensures c.in-Ppe.is refl refl

-- PPE's number is below 16
pub ppe-requires : goal.ppe-requires
unfolding choose messages first_in first_of codes_in codes_of has_c1
ppe-requires c =
    rw c.offset_of-in-Ppe.ensures
    (ppe_number c.args.frame (sym c.kind_of.ensures ∙ ap number_of c.in-Ppe.is))

pub returns-in-Lad : goal.returns-in-Lad
unfolding choose messages first_in first_of codes_in codes_of
returns-in-Lad c =
    listed Lad _ _ c.kind_of.ensures c.in-Lad.is
    (rw (← c.offset_of.ensures) (search (arms, c.sends.ensures, c.lad.ensures)))

pub returns-in-Unl : goal.returns-in-Unl
unfolding choose messages first_in first_of codes_in codes_of
returns-in-Unl c =
    listed Unl _ _ c.kind_of.ensures c.in-Unl.is
    (search (arms, c.sends-in-Unl.ensures, c.listening.ensures))

pub returns-in-Tad : goal.returns-in-Tad
unfolding choose messages first_in first_of codes_in codes_of
returns-in-Tad c =
    listed Tad _ _ c.kind_of.ensures c.in-Tad.is
    (rw (← c.offset_of-in-Tad.ensures) (search (arms, c.sends-in-Tad.ensures, c.tad.ensures)))

pub returns-in-Unt : goal.returns-in-Unt
unfolding choose messages first_in first_of codes_in codes_of
returns-in-Unt c =
    listed Unt _ _ c.kind_of.ensures c.in-Unt.is
    (search (arms, c.sends-in-Unt.ensures, c.talking.ensures))

pub returns-in-Ifc : goal.returns-in-Ifc
unfolding choose messages first_in first_of codes_in codes_of
returns-in-Ifc c =
    listed Ifc _ _ c.kind_of.ensures c.in-Ifc.is
    (search (arms, c.sends-in-Ifc.ensures, c.roles.ensures))

pub returns-in-Aau : goal.returns-in-Aau
unfolding choose messages first_in first_of codes_in codes_of
returns-in-Aau c =
    listed Aau _ _ c.kind_of.ensures c.in-Aau.is
    (search (arms, c.sends-in-Aau.ensures, c.aau.ensures))

pub returns-in-Dcl : goal.returns-in-Dcl
unfolding choose messages first_in first_of codes_in codes_of
returns-in-Dcl c =
    listed Dcl _ _ c.kind_of.ensures c.in-Dcl.is
    (search (arms, c.reports.ensures))

pub returns-in-Sdc : goal.returns-in-Sdc
unfolding choose messages first_in first_of codes_in codes_of
returns-in-Sdc c =
    listed Sdc _ _ c.kind_of.ensures c.in-Sdc.is
    (search (arms, c.to_listener.ensures))

pub returns-in-Get : goal.returns-in-Get
unfolding choose messages first_in first_of codes_in codes_of
returns-in-Get c =
    listed Get _ _ c.kind_of.ensures c.in-Get.is
    (search (arms, c.to_listener-in-Get.ensures))

pub returns-in-Ren : goal.returns-in-Ren
unfolding choose messages first_in first_of codes_in codes_of
returns-in-Ren c =
    listed Ren _ _ c.kind_of.ensures c.in-Ren.is
    (search (arms, c.sends-in-Ren.ensures, c.ren.ensures))

pub returns-in-Nre : goal.returns-in-Nre
unfolding choose messages first_in first_of codes_in codes_of
returns-in-Nre c =
    listed Nre _ _ c.kind_of.ensures c.in-Nre.is
    (search (arms, c.sends-in-Nre.ensures, c.nre.ensures))

pub returns-in-Llo : goal.returns-in-Llo
unfolding choose messages first_in first_of codes_in codes_of
returns-in-Llo c =
    listed Llo _ _ c.kind_of.ensures c.in-Llo.is
    (search (arms, c.sends-in-Llo.ensures, c.llo.ensures))

pub returns-in-Gtl : goal.returns-in-Gtl
unfolding choose messages first_in first_of codes_in codes_of
returns-in-Gtl c =
    listed Gtl _ _ c.kind_of.ensures c.in-Gtl.is
    (search (arms, c.sends-in-Gtl.ensures, c.gtl.ensures))

pub returns-in-Ppe : goal.returns-in-Ppe
unfolding choose messages first_in first_of codes_in codes_of
returns-in-Ppe c =
    listed Ppe _ _ c.kind_of.ensures c.in-Ppe.is
    (rw (← c.offset_of-in-Ppe.ensures) (search (arms, c.sends-in-Ppe.ensures, c.ppe.ensures)))

pub returns-in-Ppd : goal.returns-in-Ppd
unfolding choose messages first_in first_of codes_in codes_of
returns-in-Ppd c =
    listed Ppd _ _ c.kind_of.ensures c.in-Ppd.is
    (search (arms, c.sends-in-Ppd.ensures, c.ppd.ensures))

pub returns-in-Ppu : goal.returns-in-Ppu
unfolding choose messages first_in first_of codes_in codes_of
returns-in-Ppu c =
    listed Ppu _ _ c.kind_of.ensures c.in-Ppu.is
    (search (arms, c.sends-in-Ppu.ensures, c.ppu.ensures))

pub returns-in_default : goal.returns-in_default
unfolding choose messages first_in first_of codes_in codes_of
returns-in_default c =
    other 0x400 0x500 c.kind_of.result _ c.args.frame c.kind_of.ensures c.requires.first
    c.requires.past (opened c.in_default.in_default-own.keys17) tt (c.sends-in_default.ensures (device_of c.args.rec.now))
