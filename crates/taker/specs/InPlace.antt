-- What it is to take a frame in a record: what is passed on, and the record afterwards, are the device's.
use Rattle.std.specs.Prelude.{ℕ, ◌≡◌, List}
use Rattle.device.specs.Sent.{Sent}
use Rattle.record.specs.Record.{record_of}
use Rattle.state.specs.State.{with}
use Rattle.state.specs.declared.Passed.{Passed}

-- a device that does s passes p on, with its state after it
pub record Passes (s : Sent) (p : Passed) : Type 0 where
  pub state : with s.device p.state ≡ s.device
  pub frame : p.frame ≡ s.frame
  pub handed : p.handed ≡ s.handed

-- and leaves record c
pub record InPlace (s : Sent) (p : Passed) (c : List ℕ) : Type 0 where
  pub passes : Passes s p
  pub leaves : c ≡ record_of s.device
