-- What the clause on a device's variant says, part by part: it joins tests of one variant or of the other.
use Prim.Native.Nat.{◌≤◌, ◌<◌}
use mathlib.Core.Path.{◌≡◌}
use mathlib.Core.Bool.{true, not}
use borrow.Author.Tests.{eqb-true, leb-true, ltb-true}
use Rattle.device.specs.Device.{auto_address, has}
use Rattle.device.specs.declared.Device.{Device}
use Rattle.record.specs.Sound.{simple_right, unconfigured_second, configured_both, extended_right}
use Rattle.record.proofs.Both.{left, right}

pub record Simply (d : Device) : Type 0 where
  pub configured : d.configured ≤ 1
  pub fixedsecond : d.fixedsecond ≡ 0
  pub second : d.second ≡ 0

pub simply_of : (d : Device) → simple_right d ≡ true → Simply d
simply_of d h =
    record {
      configured = leb-true d.configured 1 (search (left, right));
      fixedsecond = eqb-true d.fixedsecond 0 (search (left, right));
      second = eqb-true d.second 0 (search (left, right));
    }

pub record Doubly (d : Device) : Type 0 where
  pub unable : not (has d auto_address) ≡ true
  pub fixedsecond : d.fixedsecond < 64
  pub second : d.second < 64
  pub unconf : unconfigured_second d ≡ true
  pub conf : configured_both d ≡ true

pub doubly_of : (d : Device) → extended_right d ≡ true → Doubly d
doubly_of d h =
    record {
      unable = search (left, right);
      fixedsecond = ltb-true d.fixedsecond 64 (search (left, right));
      second = ltb-true d.second 64 (search (left, right));
      unconf = search (left, right);
      conf = search (left, right);
    }
