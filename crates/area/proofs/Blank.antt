-- A blank area: devices and links that are all zero are written as zeros, and are sound.
use mathlib.Core.Path.{◌≡◌, refl, sym, ap}
use mathlib.Core.List.{List, [], ◌∷◌, map}
use Prim.Native.Nat.{ℕ, zero, suc, ◌+◌, ◌*◌, ◌≤◌}
use native.Mathlib.Nat.{mul-suc, mul-zero, add_comm}
use native.Mathlib.Omega.{arith}
use lib.ListN.{set, replicate, length-replicate, replicate-append-replicate}
use Rattle.device.specs.PowerOn.{bytes_from}
use Rattle.record.specs.Record.{record_size, device_of, record_of}
use Rattle.record.specs.Fits.{Good}
use Rattle.area.specs.Sizes.{link_size, most_devices, area_size}
use Rattle.area.specs.Parts.{join}
use Rattle.area.specs.Link.{link_of, Frames}
use Rattle.area.specs.Loop.{area_of, SoundLoop}
use Rattle.area.specs.Lookup.{blank_of}
use Rattle.record.proofs.Laws.{blank_good}
use Rattle.area.proofs.Each.{each_same}
use Rattle.area.proofs.Areas.{no_frames}

join_zeros : {A : Type 0} (f : A → List ℕ) (x : A) (w : ℕ) → f x ≡ replicate w 0 → (n : ℕ) →
    join (map f (replicate n x)) ≡ replicate (w * n) 0
unfolding join
join_zeros f x w h zero = rw mul-zero
join_zeros f x w h (suc n) = rw (join_zeros f x w h n, h, mul-suc, add_comm (w * n) w)
    (replicate-append-replicate w (w * n) 0)

blank_record : record_of (device_of []) ≡ replicate record_size 0
unfolding record_of device_of bytes_from
blank_record = refl

blank_link : link_of [] ≡ replicate link_size 0
unfolding link_of
blank_link = refl

pub blank_area : (n : ℕ) → set (replicate (area_size n) 0) 0 n ≡ area_of (blank_of n)
unfolding area_of
blank_area n =
    let e : area_size n ≡ suc (7 + (record_size * n + link_size * suc n)) = omega arith in
    rw (
      e,
      join_zeros record_of (device_of []) record_size blank_record n,
      join_zeros link_of [] link_size blank_link (suc n),
      length-replicate,
      replicate-append-replicate {A = ℕ} (record_size * n) (link_size * suc n) 0,
    )
    (ap (λ (r : List ℕ). n ∷ r) (sym (replicate-append-replicate 7 (record_size * n + link_size * suc n) 0)))

pub blank_sound : (n : ℕ) → 1 ≤ n → n ≤ most_devices → SoundLoop (blank_of n)
blank_sound n h k =
    record {
      some = rw length-replicate h;
      few = rw length-replicate k;
      ends = simp length-replicate;
      devices = each_same Good (device_of []) blank_good n;
      frames = each_same Frames [] no_frames (suc n);
    }
