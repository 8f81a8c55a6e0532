-- The classes of frames, told by their control bits C3 C2 C1 (001, Message table).
use Rattle.std.specs.Prelude.{ℕ, ◌≤◌, ◌<◌}

-- data or end: C3 is 0
pub record IsData (f : ℕ) : Type 0 where
  pub past : f < 0x400

-- a command: 100
pub record IsCommand (f : ℕ) : Type 0 where
  pub first : 0x400 ≤ f
  pub past : f < 0x500

-- a ready frame: 101
pub record IsReady (f : ℕ) : Type 0 where
  pub first : 0x500 ≤ f
  pub past : f < 0x600

-- identify: C3 and C2 are 1
pub record IsIdentify (f : ℕ) : Type 0 where
  pub first : 0x600 ≤ f
  pub past : f < 0x800
