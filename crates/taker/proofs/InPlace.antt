-- A state written to a record makes it the record of the device with that state: so what is passed on, put back, is
-- what the device does in its record.
use Prim.Native.Nat.{ℕ}
use mathlib.Core.Path.{◌≡◌, sym, ap, ◌∙◌}
use mathlib.Core.List.{List}
use Rattle.device.specs.Sent.{Sent}
use Rattle.device.specs.declared.Device.{Device}
use Rattle.record.specs.Record.{device_of, record_of}
use Rattle.record.specs.Written.{written}
use Rattle.state.specs.State.{values, with}
use Rattle.state.specs.declared.Passed.{Passed}
use Rattle.state.proofs.Laws.{write_back}
use Rattle.extended.specs.Own.{Does}
use Rattle.taker.specs.InPlace.{InPlace}

pub put_in : (b : List ℕ) (s : Sent) (p r : Passed) (c : List ℕ) → Does s p b → r ≡ p →
    c ≡ written (values p.state) b → InPlace s r c
put_in b s p r c d same h =
    rw same
    (record {
      passes =
          record {
            state =
                let e = ap (λ (x : Sent). x.device) d.is in ap (λ (x : Device). with x p.state) (sym e) ∙ e;
            frame = ap (λ (x : Sent). x.frame) d.is;
            handed = ap (λ (x : Sent). x.handed) d.is;
          };
      leaves =
          h
          ∙ ap (written (values p.state)) (sym d.bytes.whole)
          ∙ write_back (device_of b) p.state
          ∙ ap (λ (x : Sent). record_of x.device) d.is;
    })
