-- The header's body, the devices' and the links', each where the number of devices says.
use mathlib.Core.Path.{◌≡◌, refl}
use mathlib.Core.List.{List}
use mathlib.Core.Bool.{Bool, ◌&&◌}
use Prim.Native.Nat.{ℕ, ◌+◌, ◌-◌}
use native.Mathlib.Omega.{arith}
use native.Mathlib.Numerals.{add-one}
use lib.ListN.{length, take, drop}
use Rattle.device.specs.PowerOn.{bytes_from}
use Rattle.record.specs.Record.{zeros}
use Rattle.area.specs.Parts.{parts, all}
use Rattle.area.specs.Loop.{sound}
use Rattle.area.proofs.Parts.{rest_is}
use Rattle.saved.specs.Saved.{head_size, saved_header_size, saved_device_size, saved_link_size, saved_links_at}
use Rattle.saved.specs.Saved.{contents}
use Rattle.saved.specs.Inner.{sound_device_in, sound_link_in, SaveOf}
use Rattle.saved.proofs.Formed.{sound_held}
use borrow.Author.Rules.{rules}
use Rattle.bodies.proofs.bodies_sound.Goals as goal

together : (s : List ℕ) (x y z : Bool) (n m l head from at : ℕ) → SaveOf n s →
    x ≡ zeros (bytes_from 2 6 (take (length s - head) (drop head s))) →
    y ≡ all sound_device_in (parts saved_device_size m (take (length s - from) (drop from s))) →
    z ≡ all sound_link_in (parts saved_link_size l (take (length s - at) (drop at s))) → head ≡ head_size → m ≡ n →
    from ≡ saved_header_size → l ≡ n + 1 → at ≡ saved_links_at n → (x && (y && z)) ≡ sound (contents s)
together s x y z n m l head from at v p q r e i f j g =
    rw (p, q, r, rest_is head s, rest_is from s, rest_is at s, e, i, f, j, g, add-one, v.count)
    (sound_held s (rw v.count at v.long))

pub returns : goal.returns
returns c =
    together c.args.save.now _ _ _ c.args.n _ _ _ _ _ c.requires c.rest_zero.ensures
    (c.all_parts.ensures sound_device_in (λ p r h k. search rules))
    (c.all_parts-2.ensures sound_link_in (λ p r h k. search rules)) refl (omega arith) refl (omega arith)
    c.links_at-links.ensures
