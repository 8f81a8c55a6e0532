-- What each local call writes, put into a record, makes it the record of the device after the call: a record's bytes
-- stand at fixed places.
use Prim.Native.Nat.{ℕ}
use mathlib.Core.Path.{◌≡◌, refl}
use mathlib.Core.List.{List, ◌++◌}
use lib.ListN.{length, take, drop, set}
use borrow.Author.Tests.{ne_eqb}
use Rattle.device.specs.PowerOn.{bytes_from}
use Rattle.device.specs.Change.{loadlength, sent, choice, status, service, remote, loading, statusing, serving}
use Rattle.device.specs.Change.{remoting, pollstatus, pollstatusing}
use Rattle.device.specs.declared.Device.{Device}
use Rattle.record.specs.Record.{record_size, device_of, record_of}
use Rattle.record.specs.Fits.{Bytes}
use Rattle.record.proofs.Laws.{record_back}
use Rattle.record_local.specs.Local.{Called, accepted, refused}
use Rattle.record_local.specs.InPlace.{InPlace}

module _ (d : Device) where
  data_put : (bs : List ℕ) (e : ℕ) →
      let b = set (set (set (record_of d) loadlength (length bs)) sent 0) choice e in
      take 32 b ++ (bytes_from 0 32 bs ++ drop 32 (drop 32 b)) ≡ record_of (loading d bs e)
  unfolding record_of bytes_from
  data_put bs e = refl

  status_put : (s : ℕ) → set (record_of d) status s ≡ record_of (statusing d s)
  unfolding record_of
  status_put s = refl

  service_put : (x : ℕ) → set (record_of d) service x ≡ record_of (serving d x)
  unfolding record_of
  service_put x = refl

  remote_put : (x : ℕ) → set (record_of d) remote x ≡ record_of (remoting d x)
  unfolding record_of
  remote_put x = refl

  poll_status_put : (x : ℕ) → set (record_of d) pollstatus x ≡ record_of (pollstatusing d x)
  unfolding record_of
  poll_status_put x = refl

-- 64 bytes are a record, b
module _ (b : List ℕ) (long : length b ≡ record_size) (small : Bytes b) where
  pub data_written : (bs : List ℕ) (e : ℕ) →
      let c = set (set (set b loadlength (length bs)) sent 0) choice e in
      take 32 c ++ (bytes_from 0 32 bs ++ drop 32 (drop 32 c)) ≡ record_of (loading (device_of b) bs e)
  data_written bs e = rw (record_back b long small) at (data_put (device_of b) bs e)

  pub status_written : (s : ℕ) → set b status s ≡ record_of (statusing (device_of b) s)
  status_written s = rw (record_back b long small) at (status_put (device_of b) s)

  pub service_written : (x : ℕ) → set b service x ≡ record_of (serving (device_of b) x)
  service_written x = rw (record_back b long small) at (service_put (device_of b) x)

  pub remote_written : (x : ℕ) → set b remote x ≡ record_of (remoting (device_of b) x)
  remote_written x = rw (record_back b long small) at (remote_put (device_of b) x)

  pub poll_status_written : (x : ℕ) → set b pollstatus x ≡ record_of (pollstatusing (device_of b) x)
  poll_status_written x = rw (record_back b long small) at (poll_status_put (device_of b) x)

-- a refused call leaves the record b as it was, and an accepted one leaves that of its device
module _ (b : List ℕ) where
  pub left_alone : (k : ℕ) {c : Called} → (k ≡ 0 → ⊥) → refused k (device_of b) ≡ c → InPlace b c k b
  left_alone k z e = rw (← e) (record { answers = refl; leaves = rw (ne_eqb k 0 z) })

  pub left : (d : Device) {x : List ℕ} {c : Called} → accepted d ≡ c → x ≡ record_of d → InPlace b c 0 x
  left d e h = rw (← e) (record { answers = refl; leaves = h })
