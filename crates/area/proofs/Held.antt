-- The parts of an area without a refusal as they are lent to the code, and the area as it is given back: that of a
-- changed loop.
use mathlib.Core.Path.{◌≡◌, refl, sym, ap, ◌∙◌}
use mathlib.Core.List.{List, ◌∷◌, [], ◌++◌, tail}
use Prim.Native.Nat.{ℕ, ◌<◌, ◌+◌, ◌-◌}
use native.Mathlib.Omega.{arith}
use native.Mathlib.Nat.{add-sub_cancel_left}
use lib.ListN.{length, take, drop}
use Rattle.frame.specs.Messages.{frames}
use Rattle.device.specs.declared.Device.{Device}
use Rattle.record.specs.Record.{record_size, device_of, record_of}
use Rattle.record.specs.Written.{IsRecord}
use Rattle.record.specs.Fits.{Bytes, Good}
use Rattle.record.proofs.Laws.{record_wide, record_again}
use Rattle.area.specs.Sizes.{link_size, depth, record_at, link_at, Starts}
use Rattle.area.specs.Link.{frames_of, link_of, IsLink, Frames}
use Rattle.area.specs.Loop.{loop_of, size, device, link, Holds, HasDevice, HasLink}
use Rattle.area.specs.Lookup.{set_device, set_link, add, remove}
use Rattle.area.proofs.Parts.{lent, given_back, lent_is, given_back_is}
use Rattle.area.proofs.Links.{frames_again, link_sound, link_wide, frames_less, frames_more}
use Rattle.area.proofs.Areas.{area_is, loop_good, device_read, device_get, device_put, link_put, link_get}
use Rattle.area.proofs.Areas.{holds_of, device_kept, link_kept}

-- link j
module _ (a : List ℕ) (small : Bytes a) (j from : ℕ) (h : HasLink a j)
    (s : Starts from (link_at (size (loop_of a)) j) link_size a) where
  here : j < length (loop_of a).links
  here = omega (arith, h.there, (loop_good a small h.judged).ends)

  pub frames_in : Frames (link (loop_of a) j)
  frames_in = (loop_good a small h.judged).frames j

  lent_link : lent from link_size a ≡ link_of (link (loop_of a) j)
  lent_link =
      lent_is from _ link_size a s.at_place ∙ rw (area_is a small h.judged) at (link_get (loop_of a) j here)

  pub frames_lent : frames_of (lent from link_size a) ≡ link (loop_of a) j
  frames_lent = ap frames_of lent_link ∙ frames_again (link (loop_of a) j) frames_in

  pub link_lent : IsLink (lent from link_size a)
  link_lent = rw lent_link
      (record { long = link_wide (link (loop_of a) j); sound = link_sound (link (loop_of a) j) frames_in })

  link_held : (fs : List ℕ) → Frames fs → Holds (given_back from link_size (link_of fs) a) (set_link j fs (loop_of a))
  link_held fs f =
      rw (
        given_back_is from _ link_size (link_of fs) a s.at_place,
        rw (area_is a small h.judged) at
            (link_put (loop_of a) j fs here),
      )
      (holds_of (set_link j fs (loop_of a)) (link_kept (loop_of a) (loop_good a small h.judged) j fs f))

  pub removed : (b : List ℕ) → b ≡ link_of (tail (frames_of (lent from link_size a))) →
      Holds (given_back from link_size b a) (remove j (loop_of a))
  removed b e = rw (e, frames_lent) (link_held (tail (link (loop_of a) j)) (frames_less (link (loop_of a) j) frames_in))

  pub added : (f : ℕ) (b : List ℕ) → length (link (loop_of a) j) < depth → f < frames →
      b ≡ link_of (frames_of (lent from link_size a) ++ (f ∷ [])) →
      Holds (given_back from link_size b a) (add j f (loop_of a))
  added f b room k e =
      rw (e, frames_lent) (link_held (link (loop_of a) j ++ (f ∷ []))
      (frames_more (link (loop_of a) j) f frames_in room k))

-- device i
module _ (a : List ℕ) (small : Bytes a) (i from : ℕ) (h : HasDevice a i)
    (s : Starts from (record_at i) record_size a) where
  pub device_lent : device_of (lent from record_size a) ≡ device (loop_of a) i
  device_lent = ap device_of (lent_is from _ record_size a s.at_place)
      ∙ sym (device_read a small h.judged i h.there)

  -- the bytes lent are its record
  pub record_lent : IsRecord (lent from record_size a)
  record_lent =
      let d = device (loop_of a) i in
      let e : lent from record_size a ≡ record_of d = lent_is from _ record_size a s.at_place
      ∙ rw (area_is a small h.judged) at (device_get (loop_of a) i h.there) in
      let good = (loop_good a small h.judged).devices i in
      rw e (record { long = record_wide d; whole = ap record_of (record_again d good.fits) })

  pub device_held : (d : Device) (b : List ℕ) → Good d → b ≡ record_of d →
      Holds (given_back from record_size b a) (set_device i d (loop_of a))
  device_held d b g e =
      rw (
        e,
        given_back_is from _ record_size (record_of d) a s.at_place,
        rw (area_is a small h.judged) at
            (device_put (loop_of a) i d h.there),
      )
      (holds_of (set_device i d (loop_of a)) (device_kept (loop_of a) (loop_good a small h.judged) i d g))

  -- the same of the area as its bytes stand
  pub device_put_back : (d : Device) (x : List ℕ) → Good d →
      x ≡ take from a ++ (record_of d ++ drop record_size (drop from a)) → Holds x (set_device i d (loop_of a))
  device_put_back d x g e =
      let w : from + record_size - from ≡ record_size = add-sub_cancel_left from record_size in
      rw e (rw w at (device_held d (record_of d) g refl))
