-- A slot is 0 where both its bytes are.
use Prim.Native.Nat.{ℕ, ◌+◌, ◌*◌}
use mathlib.Core.Bool.{Bool, ◌&&◌}
use mathlib.Core.Path.{◌≡◌}
use native.Mathlib.Omega.{arith}
use lib.Dec.{eqb}
use Rattle.std.proofs.lemmas.Bool.Decides.{nat_tests}
use Rattle.device.specs.PowerOn.{bytes_from}
use Rattle.device.proofs.Bytes.{take_bytes}
use Rattle.record.specs.Record.{zeros}
use Rattle.area.specs.Link.{sound_slot, sound_link}
use Rattle.judge.proofs.contents.empty_sound.Goals as goal

word_zero : (x y : ℕ) (r : Bool) → (eqb (x + 256 * y) 0 && r) ≡ (eqb x 0 && (eqb y 0 && r))
word_zero x y r = grind (arith, nat_tests)

pub returns : goal.returns
unfolding sound_link sound_slot zeros bytes_from
returns c = let b = c.args.link.now in
    simp (c.requires.1, c.requires.0, word_zero, c.all_zero.ensures, take_bytes 9 1 b (omega arith))
