-- Each arm is its rule, and there is no other.
use mathlib.Core.Path.{refl, sym, ap, ◌∙◌}
use native.Mathlib.Omega.{arith}
use Rattle.frame.specs.declared.Kind.TheVariants.{Lad, Tad, Sad, Aau, Aad, Aes, Aep}
use Rattle.frame.specs.Messages.{number_of, messages, first_in, first_of, codes_in, codes_of}
use Rattle.frame.specs.Decoding.{has_c1}
use Rattle.device.specs.Choose.{choose}
use Rattle.device.proofs.Classes.{aes_address}
use Rattle.device.proofs.Dispatch.{listed_extended, coded_as}
use Rattle.record.proofs.Whole.{record_is}
use Rattle.extended.proofs.InPlace.{unchanged, stands, stays}
use Rattle.extended.proofs.Owned.{passed, as_well}
use Rattle.extended.proofs.own.Goals as goal

-- the kind that an arm names is the frame's
pub offset_of-requires : goal.offset_of-requires
unfolding choose messages first_in first_of codes_in codes_of has_c1
offset_of-requires c = coded_as Lad _ c.kind_of.ensures c.in-Lad.is refl refl

pub offset_of-requires-in-Tad : goal.offset_of-requires-in-Tad
unfolding choose messages first_in first_of codes_in codes_of has_c1
offset_of-requires-in-Tad c = coded_as Tad _ c.kind_of.ensures c.in-Tad.is refl refl

pub offset_of-requires-in-Sad : goal.offset_of-requires-in-Sad
unfolding choose messages first_in first_of codes_in codes_of has_c1
offset_of-requires-in-Sad c = coded_as Sad _ c.kind_of.ensures c.in-Sad.is refl refl

pub offset_of-requires-in-Aes : goal.offset_of-requires-in-Aes
unfolding choose messages first_in first_of codes_in codes_of has_c1
offset_of-requires-in-Aes c = coded_as Aes _ c.kind_of.ensures c.in-Aes.is refl refl

pub offset_of-requires-in-Aep : goal.offset_of-requires-in-Aep
unfolding choose messages first_in first_of codes_in codes_of has_c1
offset_of-requires-in-Aep c = coded_as Aep _ c.kind_of.ensures c.in-Aep.is refl refl

-- AES carries an address below 31
pub aes-requires : goal.aes-requires
unfolding choose messages first_in first_of codes_in codes_of has_c1
aes-requires c =
    let a = aes_address c.args.frame (sym c.kind_of.ensures ∙ ap number_of c.in-Aes.is) in
    (omega arith, rw c.offset_of-in-Aes.ensures (omega (arith, a)))

pub returns-in-Lad : goal.returns-in-Lad
unfolding choose messages first_in first_of codes_in codes_of
returns-in-Lad c =
    passed c.args.frame c.sends.result c.lad.ensures c.sends.ensures
    (listed_extended Lad _ _ c.kind_of.ensures c.in-Lad.is (rw c.offset_of.ensures))

pub returns-in-Tad : goal.returns-in-Tad
unfolding choose messages first_in first_of codes_in codes_of
returns-in-Tad c =
    passed c.args.frame c.sends-in-Tad.result c.tad.ensures c.sends-in-Tad.ensures
    (listed_extended Tad _ _ c.kind_of.ensures c.in-Tad.is (rw c.offset_of-in-Tad.ensures))

pub returns-in-Sad : goal.returns-in-Sad
unfolding choose messages first_in first_of codes_in codes_of
returns-in-Sad c =
    passed c.args.frame c.sends-in-Sad.result c.sad.ensures c.sends-in-Sad.ensures
    (listed_extended Sad _ _ c.kind_of.ensures c.in-Sad.is (rw c.offset_of-in-Sad.ensures))

pub returns-in-Aau : goal.returns-in-Aau
unfolding choose messages first_in first_of codes_in codes_of
returns-in-Aau c =
    passed c.args.frame c.sends-in-Aau.result c.aau.ensures c.sends-in-Aau.ensures
    (listed_extended Aau _ _ c.kind_of.ensures c.in-Aau.is refl)

pub returns-in-Aad : goal.returns-in-Aad
unfolding choose messages first_in first_of codes_in codes_of
returns-in-Aad c =
    let b = c.args.rec.now in
    passed c.args.frame c.sends-in-Aad.result
    (stands _ unchanged b (stays b (record_is b c.told-rec c.fits-rec)) c.args.state refl) c.sends-in-Aad.ensures
    (listed_extended Aad _ _ c.kind_of.ensures c.in-Aad.is refl)

pub returns-in-Aes : goal.returns-in-Aes
unfolding choose messages first_in first_of codes_in codes_of
returns-in-Aes c =
    as_well c.aes.ensures
    (listed_extended Aes _ _ c.kind_of.ensures c.in-Aes.is (rw c.offset_of-in-Aes.ensures))

pub returns-in-Aep : goal.returns-in-Aep
unfolding choose messages first_in first_of codes_in codes_of
returns-in-Aep c =
    let b = c.args.rec.now in
    passed c.args.frame c.sends-in-Aep.result
    (stands _ unchanged b (stays b (record_is b c.told-rec c.fits-rec)) c.aep.result c.aep.ensures) c.sends-in-Aep.ensures
    (listed_extended Aep _ _ c.kind_of.ensures c.in-Aep.is (rw c.offset_of-in-Aep.ensures))
