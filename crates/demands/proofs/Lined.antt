-- An area without a refusal is that of the line in it: in what it owes, in how many devices it has, byte for byte.
use Prim.Native.Nat.{ℕ}
use mathlib.Core.Path.{◌≡◌, ap, ◌∙◌}
use mathlib.Core.List.{List}
use Rattle.area.specs.Loop.{Loop, count_in, loop_of, area_of, SoundLoop}
use Rattle.area.proofs.Laws.{loop_back, area_back, loop_sound, area_sound, area_bytes}
use Rattle.order.specs.Line as line
use Rattle.order.specs.Flat as flat
use Rattle.order.specs.Owed.{owed}
use Rattle.order.proofs.Flat.{same_flat}
use Rattle.demands.specs.Histories.{papers, line_of}
use Rattle.demands.specs.Demands.{Judged, hops_owed}
use Rattle.demands.proofs.Bridge.{loop_flat, to_loop}
use Rattle.demands.proofs.ByHops.{count_is}

-- ---- the area of a sound line

module _ (l : line.Loop papers) (good : SoundLoop (to_loop l)) where
  pub owed_is : hops_owed (area_of (to_loop l)) ≡ owed (flat.links_of l)
  owed_is = ap (λ (m : Loop). owed m.links) (loop_back (to_loop l) good)

  pub devices_are : count_in (area_of (to_loop l)) ≡ line.devices l
  devices_are = count_is (to_loop l) good ∙ (same_flat papers).same_devices l

  pub line_judged : Judged (area_of (to_loop l))
  line_judged = record { bytes = area_bytes (to_loop l) good; sound = area_sound (to_loop l) good }

-- ---- the line of an area without a refusal

module _ (a : List ℕ) (j : Judged a) where
  pub loop_is : to_loop (line_of a) ≡ loop_of a
  loop_is =
      ap (λ (x : flat.Flat papers). loop_flat x)
      ((same_flat papers).same_rows (record { links = (loop_of a).links; states = (loop_of a).devices })
      (loop_sound a j.bytes j.sound).ends)

  pub line_good : SoundLoop (to_loop (line_of a))
  line_good = rw loop_is (loop_sound a j.bytes j.sound)

  pub line_area : area_of (to_loop (line_of a)) ≡ a
  line_area = ap area_of loop_is ∙ area_back a j.bytes j.sound
