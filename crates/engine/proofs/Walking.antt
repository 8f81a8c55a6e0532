-- A walk under way: what the devices before i left and were handed stands in the bytes, and what those from i on will
-- do with the frame is still to come.
use Prim.Native.Nat.{ℕ, suc, ◌+◌, ◌*◌, ◌≤◌, ◌<◌}
use mathlib.Core.Path.{◌≡◌, refl, sym, ap, ◌∙◌}
use mathlib.Core.List.{List, [], ◌∷◌, ◌++◌, map, append_assoc, append-nil}
use mathlib.Core.Bool.{true}
use native.Mathlib.Nat.{add-sub_cancel_left}
use native.Mathlib.Numerals.{add-one}
use native.Mathlib.Omega.{arith}
use lib.ListN.{length, take, drop, get_or, length-map, length-drop, drop_of_length-le}
use lib.Seq.{drop-cons, take_at, drop_at, take_all, get_or-drop}
use Rattle.device.specs.Take.{takes}
use Rattle.device.specs.Sent.{Sent}
use Rattle.device.specs.declared.Device.{Device}
use Rattle.device.specs.declared.Handed.{Handed}
use Rattle.device.specs.declared.Handed.TheVariants as handed
use Rattle.record.specs.Record.{record_size, device_of, record_of}
use Rattle.record.specs.Sound.{sound_record}
use Rattle.record.specs.Written.{IsRecord}
use Rattle.record.specs.Fits.{Bytes, Good}
use Rattle.record.proofs.Both.{right}
use Rattle.record.proofs.Laws.{record_wide, record_again, record_back, read_good, blank_good}
use Rattle.area.specs.Sizes.{header_size, record_at}
use Rattle.area.specs.Parts.{join, all}
use Rattle.area.specs.Loop.{count_in, records_in}
use Rattle.area.proofs.Parts.{lent, given_back, map_back, join_parts, length_parts}
use Rattle.area.proofs.Each.{each_part}
use Rattle.walk.specs.Walk.{past, out_of, told_size, told_of, devices_in, sound_records, walks}
use Rattle.walk.specs.Inner.{IsWalked, Fitting}
use Rattle.engine_data.specs.Passed.{sent}
use Rattle.engine_data.specs.declared.Passed.{Passed}
use Rattle.engine.proofs.Strip.{front, behind, same}

-- the records of what devices did, and what is told of it
abbrev records_of : List Sent → List ℕ
records_of ss = join (map (λ (s : Sent). record_of s.device) ss)

abbrev all_told_of : List Sent → List ℕ
all_told_of ss = join (map (λ (s : Sent). told_of s.handed) ss)

pub told_wide : (h : Handed) → length (told_of h) ≡ told_size
told_wide handed.Nothing = refl
told_wide (handed.Byte b e) = refl
told_wide handed.Clear = refl
told_wide handed.Trigger = refl

-- ---- records that are sound

module _ (a t : List ℕ) (small : Bytes a) (fit : Fitting a t) (sound : sound_records a ≡ true) where
  tested : all sound_record (records_in a) ≡ true
  unfolding sound_records
  tested = search (right, sound)

  -- each device is good
  pub good : (i : ℕ) → Good (get_or (devices_in a) i (device_of []))
  good = each_part Good (device_of []) device_of sound_record record_size read_good blank_good (count_in a)
      (drop header_size a) (λ i. rw get_or-drop (small (header_size + i))) tested

  -- the records are those of the devices
  pub written : drop header_size a ≡ join (map record_of (devices_in a))
  written =
      let b = drop header_size a in
      let small-too : Bytes b = λ i. rw get_or-drop (small (header_size + i)) in
      let long : length b ≡ record_size * count_in a = simp length-drop (omega (arith, fit.long)) in
      let back = map_back record_of device_of sound_record record_size (λ r l s h. record_back r l s) in
      sym (rw (back (count_in a) b (omega arith) small-too tested)
      (join_parts record_size (count_in a) b ∙ take_all (record_size * count_in a) b (omega arith)))

-- ---- one device more

module _ (d : Device) (ds : List Device) (f : ℕ) where
  more_left : records_of (past (d ∷ ds) f) ≡ record_of (takes d f).device ++ records_of (past ds (takes d f).frame)
  unfolding past join
  more_left = refl

  more_told : all_told_of (past (d ∷ ds) f) ≡ told_of (takes d f).handed ++ all_told_of (past ds (takes d f).frame)
  unfolding past join
  more_told = refl

  more_out : out_of (d ∷ ds) f ≡ out_of ds (takes d f).frame
  unfolding out_of
  more_out = refl

  more_rest : join (map record_of (d ∷ ds)) ≡ record_of d ++ join (map record_of ds)
  unfolding join
  more_rest = refl

devices_many : (a : List ℕ) → length (devices_in a) ≡ count_in a
devices_many a = simp (length-map, length_parts)

module _ (a t : List ℕ) (f : ℕ) where
  -- device i is next
  pub record Walking (i : ℕ) (a' t' : List ℕ) (f' : ℕ) : Type 0 where
    pub within : i ≤ count_in a
    pub long : length a' ≡ record_at (count_in a)
    pub told : length t' ≡ told_size * count_in a
    pub rest : drop (record_at i) a' ≡ join (map record_of (drop i (devices_in a)))
    pub records : (walks a f).records ≡
        take (record_at i) a' ++ records_of (past (drop i (devices_in a)) f')
    pub tells : (walks a f).told ≡
        take (told_size * i) t' ++ all_told_of (past (drop i (devices_in a)) f')
    pub out : (walks a f).answer.frame ≡ out_of (drop i (devices_in a)) f'

  pub starts : Bytes a → Fitting a t → sound_records a ≡ true → Walking 0 a t f
  starts small fit sound =
      record {
        within = omega arith;
        long = fit.long;
        told = fit.told;
        rest = written a t small fit sound;
        records = refl;
        tells = refl;
        out = refl;
      }

  module _ (i : ℕ) (a' t' : List ℕ) (f' : ℕ) (w : Walking i a' t' f') (l : i < count_in a)
      (good : (k : ℕ) → Good (get_or (devices_in a) k (device_of []))) where
    abbrev d : Device
    d = get_or (devices_in a) i (device_of [])

    abbrev later : List Device
    later = drop (suc i) (devices_in a)

    cons : drop i (devices_in a) ≡ d ∷ later
    cons = drop-cons (devices_in a) i (device_of []) (rw (devices_many a) l)

    here : drop (record_at i) a' ≡ record_of d ++ join (map record_of later)
    here = w.rest ∙ rw cons (more_rest d later f)

    lent_here : lent (record_at i) record_size a' ≡ record_of d
    lent_here =
        rw (add-sub_cancel_left (record_at i) record_size, here)
        (take_at (record_of d) (join (map record_of later)) record_size (record_wide d))

    module _ (b x : List ℕ) (p : Passed) (is : IsRecord b)
        (does : sent b p ≡ takes (device_of (lent (record_at i) record_size a')) f') (tells : x ≡ told_of p.handed) where
      does_here : sent b p ≡ takes d f'
      does_here = does ∙ rw (lent_here, record_again d (good i).fits)

      b_is : b ≡ record_of (takes d f').device
      b_is = sym is.whole ∙ ap (λ (s : Sent). record_of s.device) does_here

      frame_is : p.frame ≡ (takes d f').frame
      frame_is = ap (λ (s : Sent). s.frame) does_here

      x_is : x ≡ told_of (takes d f').handed
      x_is = tells ∙ ap (λ (s : Sent). told_of s.handed) does_here

      abbrev a'' : List ℕ
      a'' = given_back (record_at i) record_size b a'

      abbrev t'' : List ℕ
      t'' = given_back (told_size * i) told_size x t'

      room : record_at i + record_size ≤ length a'
      room = rw w.long (omega arith)

      told_room : told_size * i + told_size ≤ length t'
      told_room = rw w.told (omega arith)

      x_wide : length x ≡ told_size
      x_wide = rw x_is (told_wide (takes d f').handed)

      next_record : record_at (i + 1) ≡ record_at i + record_size
      next_record = omega arith

      next_told : told_size * (i + 1) ≡ told_size * i + told_size
      next_told = omega arith

      new_records : (walks a f).records ≡
          take (record_at i + record_size) a'' ++ records_of (past later p.frame)
      new_records =
          w.records
          ∙ rw (cons, front a' b (record_at i) record_size room is.long, frame_is, b_is, append_assoc)
          (ap (λ (r : List ℕ). take (record_at i) a' ++ r) (more_left d later f'))

      new_tells : (walks a f).told ≡
          take (told_size * i + told_size) t'' ++ all_told_of (past later p.frame)
      new_tells =
          w.tells
          ∙ rw (cons, front t' x (told_size * i) told_size told_room x_wide, frame_is, x_is, append_assoc)
          (ap (λ (r : List ℕ). take (told_size * i) t' ++ r) (more_told d later f'))

      new_rest : drop (record_at i + record_size) a'' ≡ join (map record_of later)
      new_rest =
          behind a' b (record_at i) record_size room is.long
          ∙ rw here (drop_at (record_of d) (join (map record_of later)) record_size (record_wide d))

      pub steps : Walking (i + 1) a'' t'' p.frame
      steps =
          record {
            within = omega arith;
            long = same a' b (record_at i) record_size room is.long ∙ w.long;
            told = same t' x (told_size * i) told_size told_room x_wide ∙ w.told;
            rest = rw (next_record, add-one) new_rest;
            records = rw (next_record, add-one) new_records;
            tells = rw (next_told, add-one) new_tells;
            out = w.out ∙ rw (cons, frame_is, add-one) (more_out d later f');
          }

  pub ends : (i : ℕ) (a' t' : List ℕ) (f' : ℕ) → Walking i a' t' f' → count_in a ≤ i →
      IsWalked (walks a f) (record { frame = f'; refusal = 0 }) a' t'
  unfolding past out_of join
  ends i a' t' f' w h =
      let none : drop i (devices_in a) ≡ [] = drop_of_length-le (devices_in a) {i = i} (rw (devices_many a) h) in
      let n : i ≡ count_in a = omega (arith, w.within) in
      record {
        answer = ap (λ (x : ℕ). record { frame = x; refusal = 0 }) (sym (w.out ∙ rw none));
        records = sym (w.records ∙ rw (none, append-nil) (take_all (record_at i) a' (omega (arith, w.long))));
        told = sym (w.tells ∙ rw (none, append-nil) (take_all (told_size * i) t' (omega (arith, w.told))));
      }
