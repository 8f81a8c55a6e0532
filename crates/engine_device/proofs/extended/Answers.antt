-- Each arm is its own rule of the kind, and all else a simple device's from where it begins.
use Rattle.std.proofs.Common.{ℕ, List, ◌≡◌, refl, ap, ◌∙◌, arith, rules}
use Rattle.device.specs.Choose.{choose}
use Rattle.device.specs.Extended.{extended_lad, extended_tad, sad, extended_aau, aes, aep}
use Rattle.device.specs.Reply.{sends}
use Rattle.device.specs.Sent.{Sent}
use Rattle.device.specs.declared.Handed.TheVariants.{Nothing}
use Rattle.device.proofs.Classes.{aes_codes, aes_address}
use Rattle.record.specs.Record.{device_of}
use Rattle.engine_data.specs.Passed.{sent}
use Rattle.engine_data.specs.declared.Passed.{Passed}
use Rattle.engine_device.proofs.Own.{own, own_obeyed, as_simple}
use Rattle.engine_device.proofs.extended.Goals as goal

-- what goes out with nothing handed over
out : (b : List ℕ) {f : ℕ} {p : Passed} {x : Sent} → p ≡ record { frame = f; handed = Nothing } →
    sends (device_of b) f ≡ x → sent b p ≡ x
out b e h = ap (sent b) e ∙ h

pub aes-requires : goal.aes-requires
aes-requires c =
    let f = c.args.frame in
    let e = c.requires in
    let k = rw e at c.in-38.is in
    (omega (arith, aes_codes f k), rw e (omega (arith, aes_address f k)))

pub returns-in-12 : goal.returns-in-12
unfolding choose
returns-in-12 c =
    let d = device_of c.args.rec.now in
    out _ c.passes.ensures (own_obeyed d _ _ c.requires 12 (extended_lad d) c.in-12.is c.lad.ensures refl)

pub returns-in-14 : goal.returns-in-14
unfolding choose
returns-in-14 c =
    let d = device_of c.args.rec.now in
    out _ c.passes-in-14.ensures (own_obeyed d _ _ c.requires 14 (extended_tad d) c.in-14.is c.tad.ensures refl)

pub returns-in-16 : goal.returns-in-16
unfolding choose
returns-in-16 c =
    let d = device_of c.args.rec.now in
    out _ c.passes-in-16.ensures (own_obeyed d _ _ c.requires 16 (sad d) c.in-16.is c.sad.ensures refl)

pub returns-in-21 : goal.returns-in-21
unfolding choose
returns-in-21 c =
    let d = device_of c.args.rec.now in
    out _ c.passes-in-21.ensures (own_obeyed d _ _ c.requires 21 (λ o. extended_aau d) c.in-21.is c.aau.ensures refl)

pub returns-in-36 : goal.returns-in-36
unfolding choose
returns-in-36 c =
    let d = device_of c.args.rec.now in
    out _ c.passes-in-36.ensures (own_obeyed d _ _ c.requires 36 (aep d) c.in-36.is c.aep.ensures refl)

pub returns-in-34 : goal.returns-in-34
unfolding choose
returns-in-34 c =
    let d = device_of c.args.rec.now in
    out _ c.passes-in-34.ensures (own_obeyed d _ _ c.requires 34 (λ o. d) c.in-34.is refl refl)

pub returns-in-38 : goal.returns-in-38
unfolding choose
returns-in-38 c =
    let d = device_of c.args.rec.now in
    let f = c.args.frame in
    out _ c.passes-in-38.ensures (own d f _ c.requires 38 (λ x. aes d f x.offset) c.in-38.is c.aes.ensures refl)

pub returns-in_default : goal.returns-in_default
returns-in_default c =
    as_simple (device_of c.args.rec.now) c.args.frame c.args.message c.requires
    (search rules, (search rules, (search rules, (search rules, (search rules, (search rules, (search rules, tt))))))) c.heed.ensures c.simple.ensures
