-- Soundness, sorted by what a change touches: nine groups of facts, each of which reads only some of the fields. A
-- change leaves the groups alone that do not read what it changes.
use Prim.Native.Nat.{ℕ, ◌≤◌, ◌<◌}
use mathlib.Core.Path.{◌≡◌, refl}
use mathlib.Core.Bool.{Bool, true, false, not, cond, ◌&&◌, ◌||◌}
use mathlib.Core.List.{List, [], ◌∷◌}
use native.Mathlib.Omega.{arith}
use native.Mathlib.Decide.{dec_lt}
use lib.Dec.{eqb, ltb, leb}
use lib.ListN.{length, drop}
use borrow.Author.Tests.{eqb-true, leb-true, ltb-true, ltb-false, not-true, eq-eqb, le-leb, lt-ltb, le-ltb}
use Rattle.device.specs.Device.{parallel_poll, extended, has, has_further, talks}
use Rattle.device.specs.declared.Device.{Device}
use Rattle.record.specs.Record.{zeros}
use Rattle.record.specs.Sound.{only, in_range, zero_past, service_with_status, unaddress_with_both, unconfigured_fixed}
use Rattle.record.specs.Sound.{simple_right, extended_right}
use Rattle.record.specs.Sound.{variant_right}
use Rattle.record.specs.Sound.{listener_able, service_able, sending_able, addressed_able, data_able}
use Rattle.record.specs.Sound.{sent_within, replied_right, quiet_outside, last_below, is_assignment, poll_right, sound_device}
use Rattle.record.specs.Fits.{Bytes, Fits, Good}
use Rattle.record.proofs.Variants.{simply_of, doubly_of}
use Rattle.record.proofs.Both.{left, right, both_true}

-- what set-up gave, which never changes
abbrev pub Made : Device → Type 0
Made d =
    record {
      fixed : d.fixed ≤ 31;
      further : d.further ≤ 3;
      idlength : d.idlength ≤ 8;
      idzero : zeros (drop d.idlength d.id) ≡ true;
      service : service_with_status d ≡ true;
      unaddress : unaddress_with_both d ≡ true;
    }

abbrev pub Placed : Device → Type 0
Placed d =
    record {
      address : d.address ≤ 31;
      configured : d.configured ≤ 2;
      unconf : unconfigured_fixed d ≡ true;
      variant : variant_right d ≡ true;
    }

abbrev pub Listens : Device → Type 0
Listens d = record { listener : d.listener ≤ 1; able : listener_able d ≡ true }

abbrev pub Serves : Device → Type 0
Serves d = record { service : d.service ≤ 2; able : service_able d ≡ true }

abbrev pub Remotes : Device → Type 0
Remotes d = record { remote : d.remote ≤ 3; enabled : d.enabled ≤ 1 }

abbrev pub Loads : Device → Type 0
Loads d =
    record {
      loadlength : d.loadlength ≤ 32;
      loadzero : zeros (drop d.loadlength d.load) ≡ true;
      able : data_able d ≡ true;
      sent : d.sent ≤ d.loadlength;
      choice : d.choice ≤ 1;
    }

abbrev pub Talks : Device → Type 0
Talks d =
    record {
      talker : d.talker ≤ 5;
      noted : d.noted ≤ 1;
      last : d.last < 1024;
      addressed : d.talker ≡ 1 → talks d ≡ true;
      sends_data : d.talker ≡ 2 → has d 2 ≡ true;
      sends_status : d.talker ≡ 3 → has d 4 ≡ true;
      sends_id : d.talker ≡ 4 → has d 8 ≡ true;
      sends_accessory : d.talker ≡ 5 → has d 16 ≡ true;
      some : d.talker ≡ 2 → 1 ≤ d.sent;
      one3 : d.talker ≡ 3 → d.replied ≡ 1;
      one5 : d.talker ≡ 5 → d.replied ≡ 1;
      within : d.talker ≡ 4 → (1 ≤ d.replied) × (d.replied ≤ d.idlength);
      none : d.talker ≤ 2 → d.replied ≡ 0;
      quiet : d.talker ≤ 1 → (d.noted ≡ 0) × (d.last ≡ 0);
    }

-- of what `Fits` says, that which the other groups do not bound
abbrev pub Sized : Device → Type 0
Sized d =
    record {
      abilities : d.abilities < 256;
      status : d.status < 256;
      accessory : d.accessory < 256;
      id : Bytes d.id;
      load : Bytes d.load;
      idsize : length d.id ≡ 8;
      loadsize : length d.load ≡ 32;
    }

pub record Kept (d : Device) : Type 0 where
  pub sized : Sized d
  pub made : Made d
  pub placed : Placed d
  pub listens : Listens d
  pub serves : Serves d
  pub remotes : Remotes d
  pub loads : Loads d
  pub talks : Talks d
  pub polls : poll_right d ≡ true

-- ---- what the clause on a device's variant says of either

pub record Seconds (d : Device) : Type 0 where
  pub fixedsecond : d.fixedsecond < 64
  pub second : d.second < 64

pub seconds_of : (d : Device) → variant_right d ≡ true → Seconds d
seconds_of d h = go (has_further d extended) h
  where
    go : (b : Bool) → cond b (extended_right d) (simple_right d) ≡ true → Seconds d
    go true e = let x = doubly_of d e in record { fixedsecond = x.fixedsecond; second = x.second }
    go false e =
        let x = simply_of d e in
        record { fixedsecond = omega (arith, x.fixedsecond); second = omega (arith, x.second) }

-- ---- what the clause on poll says

pub record Polled (d : Device) : Type 0 where
  pub assignment : is_assignment d.assigned ≡ true
  pub assigned : d.assigned ≤ 31
  pub status : d.pollstatus ≤ 1
  pub able : only (not (has_further d parallel_poll)) (eqb d.assigned 0 && eqb d.pollstatus 0) ≡ true

assigned_few : (x : ℕ) → is_assignment x ≡ true → x ≤ 31
assigned_few x h = go (eqb x 0) refl h
  where
    go : (b : Bool) → eqb x 0 ≡ b → (b || (leb 16 x && leb x 31)) ≡ true → x ≤ 31
    go true e i = omega (arith, eqb-true x 0 e)
    go false e i = leb-true x 31 (right (leb 16 x) (leb x 31) i)

pub polled_of : (d : Device) → poll_right d ≡ true → Polled d
polled_of d h =
    record {
      assignment = search (left, right);
      assigned = assigned_few d.assigned (search (left, right));
      status = leb-true d.pollstatus 1 (search (left, right));
      able = search (left, right);
    }

-- ---- `only`, in and out

pub only_out : (a b : Bool) → only a b ≡ true → a ≡ true → b ≡ true
only_out true b h e = h
only_out false b h e = let z : false ≡ true = e in cc

pub only_in : (a b : Bool) → (a ≡ true → b ≡ true) → only a b ≡ true
only_in true b h = h refl
only_in false b h = refl

module _ {m n : ℕ} {b : Bool} where
  pub eq_out : only (eqb m n) b ≡ true → m ≡ n → b ≡ true
  eq_out h e = only_out (eqb m n) b h (eq-eqb m n e)

  pub eq_in : (m ≡ n → b ≡ true) → only (eqb m n) b ≡ true
  eq_in h = only_in (eqb m n) b (λ e. h (eqb-true m n e))

  pub le_out : only (leb m n) b ≡ true → m ≤ n → b ≡ true
  le_out h e = only_out (leb m n) b h (le-leb m n e)

  pub le_in : (m ≤ n → b ≡ true) → only (leb m n) b ≡ true
  le_in h = only_in (leb m n) b (λ e. h (leb-true m n e))

module _ {m n : ℕ} {b : Bool} where
  pub lt_out : only (ltb m n) b ≡ true → m < n → b ≡ true
  lt_out h e = only_out (ltb m n) b h (lt-ltb m n e)

  pub lt_in : (m < n → b ≡ true) → only (ltb m n) b ≡ true
  lt_in h = only_in (ltb m n) b (λ e. h (ltb-true m n e))

  not_out : only (not (ltb m n)) b ≡ true → n ≤ m → b ≡ true
  not_out h e = only_out (not (ltb m n)) b h (rw (le-ltb m n e))

  not_in : (n ≤ m → b ≡ true) → only (not (ltb m n)) b ≡ true
  not_in h = only_in (not (ltb m n)) b (λ e. h (ltb-false m n (not-true (ltb m n) e)))

-- ---- clauses joined, and each of them

abbrev Joined : List Bool → Bool
Joined [] = true
Joined (b ∷ []) = b
Joined (b ∷ c ∷ bs) = b && Joined (c ∷ bs)

abbrev Each : List Bool → Type 0
Each [] = Unit {0}
Each (b ∷ bs) = (b ≡ true) × Each bs

each : (bs : List Bool) → Joined bs ≡ true → Each bs
each [] h = tt
each (b ∷ []) h = (h, tt)
each (b ∷ c ∷ bs) h = (left b (Joined (c ∷ bs)) h, each (c ∷ bs) (right b (Joined (c ∷ bs)) h))

joined : (bs : List Bool) → Each bs → Joined bs ≡ true
joined [] e = refl
joined (b ∷ []) e = e.0
joined (b ∷ c ∷ bs) e = both_true e.0 (joined (c ∷ bs) e.1)

abbrev clauses : Device → List Bool
clauses d =
    in_range d ∷ zero_past d ∷ service_with_status d ∷ unaddress_with_both d ∷ unconfigured_fixed d ∷ variant_right d ∷
    listener_able d ∷ service_able d ∷ sending_able d ∷ addressed_able d ∷ data_able d ∷ sent_within d ∷ replied_right d ∷
    quiet_outside d ∷
    last_below d ∷ poll_right d ∷ []

abbrev ranges : Device → List Bool
ranges d =
    leb d.fixed 31 ∷ leb d.address 31 ∷ leb d.configured 2 ∷ leb d.listener 1 ∷ leb d.talker 5 ∷
    leb d.service 2 ∷ leb d.further 3 ∷ leb d.noted 1 ∷ leb d.idlength 8 ∷ leb d.loadlength 32 ∷
    leb d.remote 3 ∷ leb d.enabled 1 ∷ leb d.choice 1 ∷ []

abbrev states : Device → List Bool
states d =
    only (eqb d.talker 2) (has d 2) ∷ only (eqb d.talker 3) (has d 4) ∷ only (eqb d.talker 4) (has d 8) ∷
    only (eqb d.talker 5) (has d 16) ∷ []

abbrev counts : Device → List Bool
counts d =
    only (eqb d.talker 3) (eqb d.replied 1) ∷ only (eqb d.talker 5) (eqb d.replied 1) ∷
    only (eqb d.talker 4) (leb 1 d.replied && leb d.replied d.idlength) ∷ only (leb d.talker 2)
    (eqb d.replied 0) ∷ []

module _ (d : Device) (g : Good d) where
  sounds : Each (clauses d)
  unfolding sound_device
  sounds = each (clauses d) g.sound

  range : Each (ranges d)
  range = each (ranges d) sounds.0

  past : Each (zeros (drop d.idlength d.id) ∷ zeros (drop d.loadlength d.load) ∷ [])
  past = each (zeros (drop d.idlength d.id) ∷ zeros (drop d.loadlength d.load) ∷ []) sounds.1.0

  state : Each (states d)
  state = each (states d) sounds.1.1.1.1.1.1.1.1.0

  count : Each (counts d)
  count = each (counts d) sounds.1.1.1.1.1.1.1.1.1.1.1.1.0

  sent : Each (leb d.sent d.loadlength ∷ only (eqb d.talker 2) (leb 1 d.sent) ∷ [])
  sent = each (leb d.sent d.loadlength ∷ only (eqb d.talker 2) (leb 1 d.sent) ∷ [])
      sounds.1.1.1.1.1.1.1.1.1.1.1.0

  talked : Talks d
  talked =
      record {
        talker = leb-true _ _ range.1.1.1.1.0;
        noted = leb-true _ _ range.1.1.1.1.1.1.1.0;
        last = ltb-true _ _ sounds.1.1.1.1.1.1.1.1.1.1.1.1.1.1.0;
        addressed = eq_out sounds.1.1.1.1.1.1.1.1.1.0;
        sends_data = eq_out state.0;
        sends_status = eq_out state.1.0;
        sends_id = eq_out state.1.1.0;
        sends_accessory = eq_out state.1.1.1.0;
        some = λ e. leb-true _ _ (eq_out sent.1.0 e);
        one3 = λ e. eqb-true _ _ (eq_out count.0 e);
        one5 = λ e. eqb-true _ _ (eq_out count.1.0 e);
        within = λ e. let p = each (leb 1 d.replied ∷ leb d.replied d.idlength ∷ [])
            (eq_out count.1.1.0 e) in (leb-true _ _ p.0, leb-true _ _ p.1.0);
        none = λ e. eqb-true _ _ (le_out count.1.1.1.0 e);
        quiet = λ e. let p = each (eqb d.noted 0 ∷ eqb d.last 0 ∷ [])
            (not_out sounds.1.1.1.1.1.1.1.1.1.1.1.1.1.0 e) in
            (eqb-true _ _ p.0, eqb-true _ _ p.1.0);
      }

  pub kept_of : Kept d
  kept_of =
      record {
        sized =
            record {
              abilities = g.fits.abilities;
              status = g.fits.status;
              accessory = g.fits.accessory;
              id = g.fits.id;
              load = g.fits.load;
              idsize = g.fits.idsize;
              loadsize = g.fits.loadsize;
            };
        made =
            record {
              fixed = leb-true _ _ range.0;
              further = leb-true _ _ range.1.1.1.1.1.1.0;
              idlength = leb-true _ _ range.1.1.1.1.1.1.1.1.0;
              idzero = past.0;
              service = sounds.1.1.0;
              unaddress = sounds.1.1.1.0;
            };
        placed =
            record {
              address = leb-true _ _ range.1.0;
              configured = leb-true _ _ range.1.1.0;
              unconf = sounds.1.1.1.1.0;
              variant = sounds.1.1.1.1.1.0;
            };
        listens = record { listener = leb-true _ _ range.1.1.1.0; able = sounds.1.1.1.1.1.1.0 };
        serves = record { service = leb-true _ _ range.1.1.1.1.1.0; able = sounds.1.1.1.1.1.1.1.0 };
        remotes =
            record {
              remote = leb-true _ _ range.1.1.1.1.1.1.1.1.1.1.0;
              enabled = leb-true _ _ range.1.1.1.1.1.1.1.1.1.1.1.0;
            };
        loads =
            record {
              loadlength = leb-true _ _ range.1.1.1.1.1.1.1.1.1.0;
              loadzero = past.1.0;
              able = sounds.1.1.1.1.1.1.1.1.1.1.0;
              sent = leb-true _ _ sent.0;
              choice = leb-true _ _ range.1.1.1.1.1.1.1.1.1.1.1.1.0;
            };
        talks = talked;
        polls = sounds.1.1.1.1.1.1.1.1.1.1.1.1.1.1.1.0;
      }

module _ (d : Device) (k : Kept d) where
  range_of : in_range d ≡ true
  range_of =
      joined (ranges d) (
        le-leb _ _ k.made.fixed,
        (
          le-leb _ _ k.placed.address,
          (
            le-leb _ _ k.placed.configured,
            (
              le-leb _ _ k.listens.listener,
              (
                le-leb _ _ k.talks.talker,
                (
                  le-leb _ _ k.serves.service,
                  (
                    le-leb _ _ k.made.further,
                    (
                      le-leb _ _ k.talks.noted,
                      (
                        le-leb _ _ k.made.idlength,
                        (
                          le-leb _ _ k.loads.loadlength,
                          (
                            le-leb _ _ k.remotes.remote,
                            (le-leb _ _ k.remotes.enabled, (le-leb _ _ k.loads.choice, tt)),
                          ),
                        ),
                      ),
                    ),
                  ),
                ),
              ),
            ),
          ),
        ),
      )

  states_of : sending_able d ≡ true
  states_of =
      joined (states d) (
        eq_in k.talks.sends_data,
        (eq_in k.talks.sends_status, (eq_in k.talks.sends_id, (eq_in k.talks.sends_accessory, tt))),
      )

  counts_of : replied_right d ≡ true
  counts_of =
      joined (counts d) (
        eq_in (λ e. eq-eqb _ _ (k.talks.one3 e)),
        (
          eq_in (λ e. eq-eqb _ _ (k.talks.one5 e)),
          (
            eq_in (λ e. both_true (le-leb _ _ (k.talks.within e).0) (le-leb _ _ (k.talks.within e).1)),
            (le_in (λ e. eq-eqb _ _ (k.talks.none e)), tt),
          ),
        ),
      )

  quiet_of : quiet_outside d ≡ true
  quiet_of = not_in (λ e. both_true (eq-eqb _ _ (k.talks.quiet e).0) (eq-eqb _ _ (k.talks.quiet e).1))

  sound_of : Each (clauses d)
  sound_of = (
    range_of,
    (
      both_true k.made.idzero k.loads.loadzero,
      (
        k.made.service,
        (
          k.made.unaddress,
          (
            k.placed.unconf,
            (
              k.placed.variant,
              (
                k.listens.able,
                (
                  k.serves.able,
                  (
                    states_of,
                    (
                      eq_in k.talks.addressed,
                      (
                        k.loads.able,
                        (
                          both_true (le-leb _ _ k.loads.sent) (eq_in (λ e. le-leb _ _ (k.talks.some e))),
                          (counts_of, (quiet_of, (lt-ltb _ _ k.talks.last, (k.polls, tt)))),
                        ),
                      ),
                    ),
                  ),
                ),
              ),
            ),
          ),
        ),
      ),
    ),
  )

  -- a reply has at most the ID's eight bytes
  replied_small : d.replied < 256
  replied_small = go (dec_lt d.talker 3) (dec_lt d.talker 4) (dec_lt d.talker 5)
    where
      go : Dec (d.talker < 3) → Dec (d.talker < 4) → Dec (d.talker < 5) → d.replied < 256
      go (yes h) b c = omega (arith, k.talks.none (omega arith))
      go (no l) (yes h) c = omega (arith, k.talks.one3 (omega arith))
      go (no l) (no m) (yes h) = omega (arith, k.talks.within (omega arith), k.made.idlength)
      go (no l) (no m) (no h) = omega (arith, k.talks.one5 (omega (arith, k.talks.talker)))

  polled : Polled d
  polled = polled_of d k.polls

  seconds : Seconds d
  seconds = seconds_of d k.placed.variant

  fits_of : Fits d
  fits_of =
      record {
        abilities = k.sized.abilities;
        fixed = omega (arith, k.made.fixed);
        address = omega (arith, k.placed.address);
        configured = omega (arith, k.placed.configured);
        listener = omega (arith, k.listens.listener);
        talker = omega (arith, k.talks.talker);
        service = omega (arith, k.serves.service);
        further = omega (arith, k.made.further);
        noted = omega (arith, k.talks.noted);
        status = k.sized.status;
        accessory = k.sized.accessory;
        idlength = omega (arith, k.made.idlength);
        loadlength = omega (arith, k.loads.loadlength);
        sent = omega (arith, k.loads.sent, k.loads.loadlength);
        last = omega (arith, k.talks.last);
        replied = replied_small;
        remote = omega (arith, k.remotes.remote);
        enabled = omega (arith, k.remotes.enabled);
        choice = omega (arith, k.loads.choice);
        fixedsecond = omega (arith, seconds.fixedsecond);
        second = omega (arith, seconds.second);
        assigned = omega (arith, polled.assigned);
        pollstatus = omega (arith, polled.status);
        id = k.sized.id;
        load = k.sized.load;
        idsize = k.sized.idsize;
        loadsize = k.sized.loadsize;
      }

  pub good_of : Good d
  unfolding sound_device
  good_of = record { fits = fits_of; sound = joined (clauses d) sound_of }
