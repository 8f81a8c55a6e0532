-- Values written to a record where it lies: the bytes of each, and no others.
use Rattle.std.specs.Prelude.{ℕ, suc, ◌/◌, ◌%◌, ◌≡◌, cond, List, [], ◌∷◌, eqb, length, set}
use Rattle.device.specs.Change.{Edit, last}
use Rattle.record.specs.Record.{record_size, device_of, record_of}

-- a value is the byte at its place; the last frame sent is two bytes, little-endian
abbrev pub stored : Edit → List ℕ → List ℕ
stored e b =
    cond (eqb e.place last)
    (set (set b last (e.new % 256)) (suc last) (e.new / 256))
    (set b e.place e.new)

abbrev pub written : List Edit → List ℕ → List ℕ
written [] b = b
written (e ∷ es) b = written es (stored e b)

-- these are the bytes of a device's record
pub record IsRecord (b : List ℕ) : Type 0 where
  pub long : length b ≡ record_size
  pub whole : record_of (device_of b) ≡ b
