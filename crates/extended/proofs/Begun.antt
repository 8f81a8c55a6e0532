-- A frame that is none of an extended device's own finds either variant where `heed` left it, and is taken by the
-- simple rules from there.
use Prim.Native.Nat.{ℕ}
use mathlib.Core.Path.{◌≡◌, refl, sym, ap, ◌∙◌}
use mathlib.Core.List.{List}
use mathlib.Core.Bool.{Bool, true, false, cond, ◌&&◌, ◌||◌}
use lib.Dec.{eqb}
use Rattle.frame.specs.Messages.{kind_at}
use Rattle.frame.specs.Decoding.{decoded}
use Rattle.device.specs.Choose.{choose}
use Rattle.device.specs.Device.{extended, has_further}
use Rattle.device.specs.Extended.{command_kind, primary_idle, heeding}
use Rattle.device.specs.Sent.{Sent}
use Rattle.device.specs.Take.{extended_rules, takes_simple, takes}
use Rattle.device.specs.declared.Device.{Device}
use Rattle.device.proofs.Chosen.{by_variant, listed, heeded}
use Rattle.record.specs.Record.{device_of, record_of}
use Rattle.record.specs.Written.{IsRecord}
use Rattle.state.specs.State.{with, in_record, sent_from}
use Rattle.state.specs.declared.State.{State}
use Rattle.state.specs.declared.Passed.{Passed}
use Rattle.extended.specs.Own.{is_own, Does}
use Rattle.extended.proofs.InPlace.{Seconds, beside_read, still_record}

-- where a frame of kind k begins
abbrev begins : ℕ → Device → Device
begins k d = choose (has_further d extended) (heeding d k) d

beginning : (k : ℕ) → Seconds (begins k)
unfolding heeding choose
beginning k =
    record {
      beside = λ d s. with_go d s (has_further d extended) (command_kind k);
      id = λ d. id_go d (has_further d extended) (command_kind k);
      load = λ d. load_go d (has_further d extended) (command_kind k);
    }
  where
    with_go : (d : Device) (s : State) (t u : Bool) → with (choose t (choose u (primary_idle d) d) d) s ≡
        choose t (choose u (primary_idle (with d s)) (with d s)) (with d s)
    with_go d s true true = refl
    with_go d s true false = refl
    with_go d s false u = refl

    id_go : (d : Device) (t u : Bool) → (choose t (choose u (primary_idle d) d) d).id ≡ d.id
    id_go d true true = refl
    id_go d true false = refl
    id_go d false u = refl

    load_go : (d : Device) (t u : Bool) → (choose t (choose u (primary_idle d) d) d).load ≡ d.load
    load_go d true true = refl
    load_go d true false = refl
    load_go d false u = refl

-- a kind that is not own is no rule's
unlisted : (d : Device) (f k : ℕ) → is_own k ≡ false → listed k (extended_rules d f (decoded f)) ≡ false
unlisted d f k h = go (eqb k 12) (eqb k 14) (eqb k 16) (eqb k 21) (eqb k 34) (eqb k 38) (eqb k 36) h
  where
    go : (p q r s t u v : Bool) → (p || (q || (r || (s || (t || (u || v)))))) ≡ false →
        cond p true (cond q true (cond r true (cond s true (cond t true (cond u true (cond v true false)))))) ≡ false
    go false false false false false false false h = refl
    go false false false false false false true h = h
    go false false false false false true v h = h
    go false false false false true u v h = h
    go false false false true t u v h = h
    go false false true s t u v h = h
    go false true r s t u v h = h
    go true q r s t u v h = h

simply : (d : Device) (f : ℕ) → (has_further d extended && is_own (kind_at f)) ≡ false →
    takes d f ≡ takes_simple (begins (kind_at f) d) f
unfolding choose
simply d f h =
    by_variant (λ (s : Sent). s ≡ takes_simple (begins (kind_at f) d) f) d f
    (λ x. heeded d f (kind_at f) refl (unlisted d f (kind_at f) (rw x at h)) ∙ rw x) (λ x. rw x)

-- the record that `heed` leaves
module _ (b : List ℕ) (f : ℕ) {c : List ℕ} (e : c ≡ record_of (begins (kind_at f) (device_of b))) where
  pub still : IsRecord c
  still = still_record (begins (kind_at f)) (beginning (kind_at f)) b e

  pub begun : (s : State) (p : Passed) → (has_further (device_of b) extended && is_own (kind_at f)) ≡ false →
      sent_from c p ≡ takes_simple (in_record c s) f → Does (takes (in_record b s) f) p c
  begun s p o h =
      record {
        is =
            h
            ∙ ap (λ (d : Device). takes_simple d f)
            (beside_read (begins (kind_at f)) (beginning (kind_at f)) b e s)
            ∙ sym (simply (in_record b s) f o);
        bytes = still;
      }
