-- A frame that was read, by the class that the number of its kind is in.
use Rattle.std.specs.Prelude.{ℕ, ◌≤◌, ◌<◌, ◌≡◌}
use Rattle.frame.specs.declared.Kind.TheVariants.{Nul, Sdc, Get, Dcl, Ddt}
use Rattle.frame.specs.declared.Message.{Message}
use Rattle.frame.specs.Messages.{number_of}
use Rattle.frame.specs.Decoding.{decoded}

-- a command
pub record Commanded (m : Message) (f : ℕ) : Type 0 where
  pub read : m ≡ decoded f
  pub first : number_of Nul ≤ m.kind
  pub last : m.kind ≤ number_of Ddt

-- one that reports nothing
pub record Obeyed (m : Message) (f : ℕ) : Type 0 where
  pub command : Commanded m f
  pub no_sdc : m.kind ≡ number_of Sdc → ⊥
  pub no_get : m.kind ≡ number_of Get → ⊥
  pub no_dcl : m.kind ≡ number_of Dcl → ⊥

-- a ready frame or an IDY
pub record Readied (m : Message) (f : ℕ) : Type 0 where
  pub read : m ≡ decoded f
  pub past : number_of Ddt < m.kind
