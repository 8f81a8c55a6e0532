-- Each change of a device keeps it sound where what it writes is in order: only the group that reads it is shown anew.
use Prim.Native.Nat.{ℕ, ◌%◌, ◌≤◌, ◌<◌}
use mathlib.Core.Path.{◌≡◌, refl}
use mathlib.Core.Bool.{Bool, true, false, not, cond}
use mathlib.Core.List.{List, [], ◌∷◌}
use native.Mathlib.Omega.{arith}
use lib.ListN.{length}
use lib.Dec.{ltb}
use borrow.Author.Tests.{eq-eqb, lt-ltb, le-leb}
use Rattle.device.specs.Device.{extended, has, has_further, talks, most_data}
use Rattle.device.specs.Change.{listening, talking, placed, serving, noting, remoting, enabling, choosing, loading}
use Rattle.device.specs.Change.{statusing, assigning, pollstatusing, ◌becomes◌, changed, address, configured}
use Rattle.device.specs.Change.{fixedsecond, second}
use Rattle.device.specs.declared.Device.{Device}
use Rattle.device.proofs.Bytes.{bytes_wide}
use Rattle.record.specs.Fits.{Bytes}
use Rattle.record.specs.Sound.{simple_right, extended_right, poll_right}
use Rattle.record.proofs.Bytes.{bytes_small}
use Rattle.keeps.proofs.Zeros.{padded_zero}
use Rattle.keeps.proofs.Groups.{Kept, Talks, eq_in, lt_in, only_in}
use Rattle.record.proofs.Variants.{simply_of, doubly_of}
use Rattle.record.proofs.Both.{both_true}

-- a device at other addresses
abbrev pub spot : Device → (a x y z : ℕ) → Device
spot d a x y z =
    changed d (address becomes a ∷ configured becomes x ∷ fixedsecond becomes y ∷ second becomes z ∷ [])

-- nothing is being sent
pub rested : (d : Device) (x : ℕ) → x ≤ 1 → (x ≡ 1 → talks d ≡ true) → Talks (talking d x)
rested d x m h =
    record {
      talker = omega arith;
      noted = omega arith;
      last = omega arith;
      addressed = h;
      sends_data = λ e. absurd (omega arith);
      sends_status = λ e. absurd (omega arith);
      sends_id = λ e. absurd (omega arith);
      sends_accessory = λ e. absurd (omega arith);
      some = λ e. absurd (omega arith);
      one3 = λ e. absurd (omega arith);
      one5 = λ e. absurd (omega arith);
      within = λ e. absurd (omega arith);
      none = λ e. refl;
      quiet = λ e. (refl, refl);
    }

module _ (d : Device) (k : Kept d) where
  pub listening_kept : (x : ℕ) → x ≤ 1 → (x ≡ 1 → has d 1 ≡ true) → Kept (listening d x)
  listening_kept x m h =
      record {
        sized = k.sized;
        made = k.made;
        placed = k.placed;
        listens = record { listener = m; able = eq_in h };
        serves = k.serves;
        remotes = k.remotes;
        loads = k.loads;
        talks = k.talks;
        polls = k.polls;
      }

  -- idle or addressed
  pub resting_kept : (x : ℕ) → x ≤ 1 → (x ≡ 1 → talks d ≡ true) → Kept (talking d x)
  resting_kept x m h =
      record {
        sized = k.sized;
        made = k.made;
        placed = k.placed;
        listens = k.listens;
        serves = k.serves;
        remotes = k.remotes;
        loads = k.loads;
        talks = rested d x m h;
        polls = k.polls;
      }

  -- a device with ability 32 is a simple one
  simple_one : has d 32 ≡ true → simple_right d ≡ true
  simple_one h = go (has_further d extended) k.placed.variant
    where
      go : (b : Bool) → cond b (extended_right d) (simple_right d) ≡ true → simple_right d ≡ true
      go true e = let z : false ≡ true = rw h at (doubly_of d e).unable in cc
      go false e = e

  simple_further : has d 32 ≡ true → has_further d extended ≡ false
  simple_further h = go (has_further d extended) k.placed.variant
    where
      go : (b : Bool) → cond b (extended_right d) (simple_right d) ≡ true → b ≡ false
      go true e = let z : false ≡ true = rw h at (doubly_of d e).unable in cc
      go false e = refl

  -- with 32: the fixed address and unconfigured, or an address 0-30 and configured
  pub placed_kept : (a x : ℕ) → a ≤ 31 → x ≤ 1 → (x ≡ 0 → a ≡ d.fixed) → has d 32 ≡ true → (x ≡ 1 → a < 31) →
      Kept (placed d a x)
  placed_kept a x m n f h b =
      record {
        sized = k.sized;
        made = k.made;
        placed =
            record {
              address = m;
              configured = omega arith;
              unconf = eq_in (λ e. eq-eqb _ _ (f e));
              variant =
                  let z = simply_of d (simple_one h) in
                  rw (simple_further h)
                  (both_true (eq_in (λ e. both_true h (lt-ltb _ _ (b e))))
                  (both_true (le-leb _ _ n) (both_true (eq-eqb _ _ z.fixedsecond) (eq-eqb _ _ z.second))));
            };
        listens = k.listens;
        serves = k.serves;
        remotes = k.remotes;
        loads = k.loads;
        talks = k.talks;
        polls = k.polls;
      }

  -- an extended one: the address a, configured x, and y and z as bytes 20 and 21
  pub spot_kept : has_further d extended ≡ true → (a x y z : ℕ) → a ≤ 31 → x ≤ 2 → (x ≡ 0 → a ≡ d.fixed) → y < 64 →
      z < 64 → (x ≡ 0 → z % 32 ≡ y % 32) → (x ≡ 1 → (a < 31) × (z % 32 < 31)) → Kept (spot d a x y z)
  spot_kept e a x y z m n f g h u b =
      record {
        sized = k.sized;
        made = k.made;
        placed =
            record {
              address = m;
              configured = n;
              unconf = eq_in (λ i. eq-eqb _ _ (f i));
              variant =
                  rw e
                  (both_true unable
                  (both_true (lt-ltb y 64 g)
                  (both_true (lt-ltb z 64 h)
                  (both_true (eq_in (λ i. eq-eqb _ _ (u i)))
                  (eq_in (λ i. both_true (lt-ltb _ _ (b i).0) (lt-ltb _ _ (b i).1)))))));
            };
        listens = k.listens;
        serves = k.serves;
        remotes = k.remotes;
        loads = k.loads;
        talks = k.talks;
        polls = k.polls;
      }
    where
      unable : not (has d 32) ≡ true
      unable = (doubly_of d (rw e at k.placed.variant)).unable

  pub serving_kept : (x : ℕ) → x ≤ 2 → (0 < x → has d 128 ≡ true) → Kept (serving d x)
  serving_kept x m h =
      record {
        sized = k.sized;
        made = k.made;
        placed = k.placed;
        listens = k.listens;
        serves = record { service = m; able = lt_in h };
        remotes = k.remotes;
        loads = k.loads;
        talks = k.talks;
        polls = k.polls;
      }

  pub noting_kept : 1 < d.talker → Kept (noting d)
  noting_kept h =
      let t = k.talks in
      record {
        sized = k.sized;
        made = k.made;
        placed = k.placed;
        listens = k.listens;
        serves = k.serves;
        remotes = k.remotes;
        loads = k.loads;
        talks =
            record {
              talker = t.talker;
              noted = omega arith;
              last = t.last;
              addressed = t.addressed;
              sends_data = t.sends_data;
              sends_status = t.sends_status;
              sends_id = t.sends_id;
              sends_accessory = t.sends_accessory;
              some = t.some;
              one3 = t.one3;
              one5 = t.one5;
              within = t.within;
              none = t.none;
              quiet = λ e. absurd (omega arith);
            };
        polls = k.polls;
      }

  -- data for a device that is not sending any: what is past its end is zero
  pub loading_kept : (bs : List ℕ) (e : ℕ) → Bytes bs → e ≤ 1 → length bs ≤ 32 → has d 2 ≡ true →
      (d.talker ≡ 2 → ⊥) → Kept (loading d bs e)
  loading_kept bs e b c m h n =
      let t = k.talks in
      record {
        sized =
            record {
              abilities = k.sized.abilities;
              status = k.sized.status;
              accessory = k.sized.accessory;
              id = k.sized.id;
              load = bytes_small bs 0 most_data b;
              idsize = k.sized.idsize;
              loadsize = bytes_wide 0 most_data bs;
            };
        made = k.made;
        placed = k.placed;
        listens = k.listens;
        serves = k.serves;
        remotes = k.remotes;
        loads =
            record {
              loadlength = m;
              loadzero = padded_zero bs most_data;
              able = only_in (ltb 0 (length bs)) (has d 2) (λ e. h);
              sent = omega arith;
              choice = c;
            };
        talks =
            record {
              talker = t.talker;
              noted = t.noted;
              last = t.last;
              addressed = t.addressed;
              sends_data = t.sends_data;
              sends_status = t.sends_status;
              sends_id = t.sends_id;
              sends_accessory = t.sends_accessory;
              some = λ e. absurd (n e);
              one3 = t.one3;
              one5 = t.one5;
              within = t.within;
              none = t.none;
              quiet = t.quiet;
            };
        polls = k.polls;
      }

  pub remoting_kept : (x : ℕ) → x ≤ 3 → Kept (remoting d x)
  remoting_kept x h =
      record {
        sized = k.sized;
        made = k.made;
        placed = k.placed;
        listens = k.listens;
        serves = k.serves;
        remotes = record { remote = h; enabled = k.remotes.enabled };
        loads = k.loads;
        talks = k.talks;
        polls = k.polls;
      }

  pub enabling_kept : (x : ℕ) → x ≤ 1 → Kept (enabling d x)
  enabling_kept x h =
      record {
        sized = k.sized;
        made = k.made;
        placed = k.placed;
        listens = k.listens;
        serves = k.serves;
        remotes = record { remote = k.remotes.remote; enabled = h };
        loads = k.loads;
        talks = k.talks;
        polls = k.polls;
      }

  pub choosing_kept : (e : ℕ) → e ≤ 1 → Kept (choosing d e)
  choosing_kept e h =
      let l = k.loads in
      record {
        sized = k.sized;
        made = k.made;
        placed = k.placed;
        listens = k.listens;
        serves = k.serves;
        remotes = k.remotes;
        loads =
            record { loadlength = l.loadlength; loadzero = l.loadzero; able = l.able; sent = l.sent; choice = h };
        talks = k.talks;
        polls = k.polls;
      }

  pub statusing_kept : (s : ℕ) → s < 256 → Kept (statusing d s)
  statusing_kept s h =
      record {
        sized =
            record {
              abilities = k.sized.abilities;
              status = h;
              accessory = k.sized.accessory;
              id = k.sized.id;
              load = k.sized.load;
              idsize = k.sized.idsize;
              loadsize = k.sized.loadsize;
            };
        made = k.made;
        placed = k.placed;
        listens = k.listens;
        serves = k.serves;
        remotes = k.remotes;
        loads = k.loads;
        talks = k.talks;
        polls = k.polls;
      }

  -- sense and bit x, and poll status s
  pub polling_kept : (x s : ℕ) → poll_right (pollstatusing (assigning d x) s) ≡ true →
      Kept (pollstatusing (assigning d x) s)
  polling_kept x s h =
      record {
        sized = k.sized;
        made = k.made;
        placed = k.placed;
        listens = k.listens;
        serves = k.serves;
        remotes = k.remotes;
        loads = k.loads;
        talks = k.talks;
        polls = h;
      }
