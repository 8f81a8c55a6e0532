-- Each ready frame's arm is its rule, and no other ready frame has one.
use mathlib.Core.Path.{refl}
use borrow.Enum.Refused.{opened}
use Rattle.frame.specs.declared.Kind.TheVariants.{Sda, Sst, Sdi, Sai, Nrd, Aad}
use Rattle.frame.specs.Messages.{messages, first_in, first_of, codes_in, codes_of}
use Rattle.frame.specs.Decoding.{has_c1}
use Rattle.device.specs.Choose.{choose}
use Rattle.device.proofs.Arms.{arms}
use Rattle.device.proofs.Dispatch.{listed, other, coded_as}
use Rattle.record.specs.Record.{device_of}
use Rattle.ready.proofs.ready.Goals as goal

pub offset_of-requires : goal.offset_of-requires
unfolding choose messages first_in first_of codes_in codes_of has_c1
offset_of-requires c = coded_as Aad _ c.kind_of.ensures c.in-Aad.is refl refl

pub returns-in-Sda : goal.returns-in-Sda
unfolding choose messages first_in first_of codes_in codes_of
returns-in-Sda c =
    listed Sda _ _ c.kind_of.ensures c.in-Sda.is c.requested.ensures

pub returns-in-Sst : goal.returns-in-Sst
unfolding choose messages first_in first_of codes_in codes_of
returns-in-Sst c =
    listed Sst _ _ c.kind_of.ensures c.in-Sst.is c.sst.ensures

pub returns-in-Sdi : goal.returns-in-Sdi
unfolding choose messages first_in first_of codes_in codes_of
returns-in-Sdi c =
    listed Sdi _ _ c.kind_of.ensures c.in-Sdi.is c.requested-in-Sdi.ensures

pub returns-in-Sai : goal.returns-in-Sai
unfolding choose messages first_in first_of codes_in codes_of
returns-in-Sai c =
    listed Sai _ _ c.kind_of.ensures c.in-Sai.is c.requested-in-Sai.ensures

pub returns-in-Nrd : goal.returns-in-Nrd
unfolding choose messages first_in first_of codes_in codes_of
returns-in-Nrd c =
    listed Nrd _ _ c.kind_of.ensures c.in-Nrd.is (search (arms, c.sends.ensures, c.nrd.ensures))

pub returns-in-Aad : goal.returns-in-Aad
unfolding choose messages first_in first_of codes_in codes_of
returns-in-Aad c =
    listed Aad _ _ c.kind_of.ensures c.in-Aad.is (rw (← c.offset_of.ensures) c.aad.ensures)

pub returns-in_default : goal.returns-in_default
unfolding choose messages first_in first_of codes_in codes_of
returns-in_default c =
    other 0x500 0x600 c.kind_of.result _ c.args.frame c.kind_of.ensures c.requires.first
    c.requires.past (opened c.in_default.in_default-own.keys7) tt (c.sends-in_default.ensures (device_of c.args.rec.now))
