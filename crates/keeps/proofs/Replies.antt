-- A talker's replies keep it sound: what it sends is a byte with its bits, and it counts no further than the reply is
-- long.
use Prim.Native.Nat.{ℕ, zero, suc, ◌+◌, ◌≤◌, ◌<◌}
use mathlib.Core.Path.{◌≡◌, refl}
use mathlib.Core.Bool.{Bool, true, false, ◌&&◌, ◌||◌}
use native.Mathlib.Omega.{arith}
use lib.Dec.{eqb, ltb}
use borrow.Author.Tests.{eqb-true, eqb-false, ltb-true, eq-eqb, ne_eqb}
use Rattle.frame.specs.Messages.{messages, first_in, first_of, codes_in, codes_of}
use Rattle.frame.specs.Decoding.{dab, end, has_c1}
use Rattle.device.specs.Choose.{choose}
use Rattle.device.specs.Device.{end_last, has, talks}
use Rattle.device.specs.Reply.{eto, stops, data_frame, other_byte, other_frame, other_length, sends_data, sends_other}
use Rattle.device.specs.Reply.{continues}
use Rattle.device.specs.Sentences.{OfBytes}
use Rattle.device.specs.declared.Device.{Device}
use Rattle.device.specs.Sent.{Sent}
use Rattle.record.specs.Sound.{poll_right}
use Rattle.device.proofs.Chosen.{chosen}
use Rattle.device.proofs.Marked.{reply, other_small, marked_code}
use Rattle.keeps.proofs.Groups.{Kept, Sized, Made, Placed, Listens, Serves, Remotes, Loads}
use Rattle.keeps.proofs.Changes.{rested}

-- a sound device and, where f is below 2,048, a frame below 2,048
pub record Out (f : ℕ) (s : Sent) : Type 0 where
  pub device : Kept s.device
  pub frame : f < 2048 → s.frame < 2048

-- all groups but the talker's
abbrev pub Others : Device → Type 0
Others d =
    record {
      sized : Sized d;
      made : Made d;
      placed : Placed d;
      listens : Listens d;
      serves : Serves d;
      remotes : Remotes d;
      loads : Loads d;
      polls : poll_right d ≡ true;
    }

pub others : (d : Device) → Kept d → Others d
others d k =
    record {
      sized = k.sized;
      made = k.made;
      placed = k.placed;
      listens = k.listens;
      serves = k.serves;
      remotes = k.remotes;
      loads = k.loads;
      polls = k.polls;
    }

-- a device that may send: in a sending state with its ability
pub record Sends (d : Device) : Type 0 where
  pub low : 1 < d.talker
  pub high : d.talker ≤ 5
  pub noted : d.noted ≤ 1
  pub as_data : d.talker ≡ 2 → has d 2 ≡ true
  pub as_status : d.talker ≡ 3 → has d 4 ≡ true
  pub as_id : d.talker ≡ 4 → has d 8 ≡ true
  pub as_accessory : d.talker ≡ 5 → has d 16 ≡ true
  pub none : d.talker ≡ 2 → d.replied ≡ 0

or_left : (a b : Bool) → a ≡ true → (a || b) ≡ true
or_left true b e = refl
or_left false b e = let z : false ≡ true = e in cc

or_right : (a b : Bool) → b ≡ true → (a || b) ≡ true
or_right true b e = refl
or_right false b e = e

-- whatever it sends, it talks
sends_talks : (d : Device) → Sends d → talks d ≡ true
sends_talks d s = go d.talker refl
  where
    go : (t : ℕ) → d.talker ≡ t → talks d ≡ true
    go zero e = absurd (omega (arith, s.low))
    go (suc zero) e = absurd (omega (arith, s.low))
    go (suc (suc zero)) e = or_left (has d 2) (has d 4 || (has d 8 || has d 16)) (s.as_data e)
    go (suc (suc (suc zero))) e = or_right (has d 2) _ (or_left (has d 4) (has d 8 || has d 16) (s.as_status e))
    go (suc (suc (suc (suc zero)))) e = or_right (has d 2) _
        (or_right (has d 4) _ (or_left (has d 8) (has d 16) (s.as_id e)))
    go (suc (suc (suc (suc (suc zero))))) e = or_right (has d 2) _
        (or_right (has d 4) _ (or_right (has d 8) (has d 16) (s.as_accessory e)))
    go (suc (suc (suc (suc (suc (suc t)))))) e = absurd (omega (arith, s.high))

module _ (d : Device) (o : Others d) (s : Sends d) where
  bytes : OfBytes d
  bytes =
      record { status = o.sized.status; accessory = o.sized.accessory; id = o.sized.id; load = o.sized.load }

  data_below : data_frame d < 1024
  unfolding data_frame has_c1 messages first_in first_of codes_in codes_of
  data_below =
      let b = o.sized.load d.sent in
      chosen (λ x. x < 1024) (eqb (d.sent + 1) d.loadlength && eqb d.choice end_last) _ _
      (λ e. omega (arith, (marked_code d _ (reply end _ refl b)).1))
      (λ e. omega (arith, (marked_code d _ (reply dab _ refl b)).1))

  other_below : other_frame d < 1024
  unfolding has_c1 messages first_in first_of codes_in codes_of
  other_below = omega (arith, (marked_code d _ (reply dab (other_byte d) refl (other_small d bytes))).1)

  id_long : d.talker ≡ 4 → other_length d ≡ d.idlength
  unfolding other_length choose
  id_long e = rw (eq-eqb _ _ e)

  one_long : (d.talker ≡ 4 → ⊥) → other_length d ≡ 1
  unfolding other_length choose
  one_long e = rw (ne_eqb _ _ e)

  data_kept : d.talker ≡ 2 → d.sent < d.loadlength → Kept (sends_data d).device
  unfolding sends_data
  data_kept e h =
      let l = o.loads in
      record {
        sized = o.sized;
        made = o.made;
        placed = o.placed;
        listens = o.listens;
        serves = o.serves;
        remotes = o.remotes;
        loads =
            record {
              loadlength = l.loadlength;
              loadzero = l.loadzero;
              able = l.able;
              sent = omega arith;
              choice = l.choice;
            };
        talks =
            record {
              talker = s.high;
              noted = s.noted;
              last = data_below;
              addressed = λ i. absurd (omega arith);
              sends_data = s.as_data;
              sends_status = s.as_status;
              sends_id = s.as_id;
              sends_accessory = s.as_accessory;
              some = λ i. omega arith;
              one3 = λ i. absurd (omega arith);
              one5 = λ i. absurd (omega arith);
              within = λ i. absurd (omega arith);
              none = λ i. s.none e;
              quiet = λ i. absurd (omega arith);
            };
        polls = o.polls;
      }

  other_kept : (d.talker ≡ 2 → ⊥) → d.replied < other_length d → Kept (sends_other d).device
  unfolding sends_other
  other_kept n h =
      record {
        sized = o.sized;
        made = o.made;
        placed = o.placed;
        listens = o.listens;
        serves = o.serves;
        remotes = o.remotes;
        loads = o.loads;
        talks =
            record {
              talker = s.high;
              noted = s.noted;
              last = other_below;
              addressed = λ i. absurd (omega (arith, s.low));
              sends_data = s.as_data;
              sends_status = s.as_status;
              sends_id = s.as_id;
              sends_accessory = s.as_accessory;
              some = λ i. absurd (n i);
              one3 = λ i. omega (arith, one_long (λ j. omega arith));
              one5 = λ i. omega (arith, one_long (λ j. omega arith));
              within = λ i. (omega arith, omega (arith, id_long i));
              none = λ i. let z : d.talker ≡ 2 = omega (arith, s.low) in absurd (n z);
              quiet = λ i. absurd (omega (arith, s.low));
            };
        polls = o.polls;
      }

  -- it stops with an answer below 2,048
  pub stops_out : (f e : ℕ) → e < 2048 → Out f (stops d e)
  stops_out f e h =
      record {
        device =
            record {
              sized = o.sized;
              made = o.made;
              placed = o.placed;
              listens = o.listens;
              serves = o.serves;
              remotes = o.remotes;
              loads = o.loads;
              talks = rested d 1 (omega arith) (λ i. sends_talks d s);
              polls = o.polls;
            };
        frame = λ i. h;
      }

  data_out : (f : ℕ) → d.talker ≡ 2 → d.sent < d.loadlength → Out f (sends_data d)
  unfolding sends_data
  data_out f e h = record { device = data_kept e h; frame = λ i. omega (arith, data_below) }

  other_out : (f : ℕ) → (d.talker ≡ 2 → ⊥) → d.replied < other_length d → Out f (sends_other d)
  unfolding sends_other
  other_out f e h = record { device = other_kept e h; frame = λ i. omega (arith, other_below) }

  pub continues_out : (f : ℕ) → Out f (continues d)
  unfolding continues
  continues_out f =
      chosen (Out f) (eqb d.talker 2) _ _
      (λ e. chosen (Out f) (ltb d.sent d.loadlength) _ _ (λ h. data_out f (eqb-true _ _ e) (ltb-true _ _ h))
      (λ h. stops_out f eto (omega arith)))
      (λ e. chosen (Out f) (ltb d.replied (other_length d)) _ _
      (λ h. other_out f (eqb-false _ _ e) (ltb-true _ _ h)) (λ h. stops_out f eto (omega arith)))
