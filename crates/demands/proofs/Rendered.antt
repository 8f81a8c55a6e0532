-- Histories on the areas of sound loops are histories of the line: in the area left, and in all that is read off the
-- answers.
use Prim.Native.Nat.{ℕ, zero, suc, ◌<◌}
use mathlib.Core.Path.{◌≡◌, refl, sym, ap, ◌∙◌}
use mathlib.Core.Bool.{Bool, true, false, cond}
use mathlib.Core.List.{List, [], ◌∷◌, ◌++◌}
use native.Mathlib.Omega.{arith}
use lib.Dec.{ltb}
use borrow.Author.Tests.{lt-ltb, ltb-true}
use Rattle.frame.specs.Messages.{frames}
use Rattle.record.specs.Fits.{Bytes}
use Rattle.area.specs.Loop.{Loop, area_of, SoundLoop}
use Rattle.area.proofs.Laws.{loop_back, area_sound}
use Rattle.calls.specs.Outcome.{Outcome, refuse, done, loop_after}
use Rattle.calls.specs.Calls.{no_hop, no_take, refusal, put_in, take_in, hop_in}
use Rattle.calls.specs.Drain.{no_drain, drain_in}
use Rattle.calls.proofs.Kept.{put_keeps, take_keeps, hop_keeps, drain_keeps}
use Rattle.calls.specs.Laws.{Keeps}
use Rattle.calls.proofs.Laws.{load_keeps, status_keeps, wish_keeps, key_keeps, poll_status_keeps}
use Rattle.order.specs.Line as line
use Rattle.order.specs.History as told
use Rattle.order.specs.Through as order
use Rattle.order.specs.Through.{Rendering, Writing, Every, FairCall, Tells, calls_of}
use Rattle.order.proofs.Flat.{same_flat}
use Rattle.order.proofs.Through.{through, read_each_lem, read_total_lem}
use Rattle.order.proofs.Turns.{calls_each}
use Rattle.demands.specs.Calls.{Byte, numbers, Local, load, status, wish, key, poll_status, local_by, Action, put}
use Rattle.demands.specs.Calls.{hop, take, local, drain, owes, save, Answer, plain, hopped, taken, drained}
use Rattle.demands.specs.Histories.{Step, call, away, put_away, stepped, history, if, put_by, taken_by, handed_by}
use Rattle.demands.specs.Histories.{hops_by, refused_by, of_call, each, total, area_left, frames_put, frames_taken}
use Rattle.demands.specs.Histories.{all_handed, hops_made, steps_refused, papers, calls, step_calls, all_calls}
use Rattle.demands.specs.Histories.{line_of, turns_of, call_seen, turn_seen, Drainless, turns_seen, calls_seen, action}
use Rattle.demands.proofs.Away.{away_stays}
use Rattle.demands.proofs.Bridge.{to_loop}
use Rattle.demands.proofs.Settled.{settle, on_loop, acts_on, fair, follows}

-- ---- every action keeps sound loops sound

pub numbers_bytes : (bs : List Byte) → Bytes (numbers bs)
numbers_bytes [] i = omega arith
numbers_bytes (b ∷ bs) zero = b.small
numbers_bytes (b ∷ bs) (suc i) = numbers_bytes bs i

local_keeps : (c : Local) (i : ℕ) → Keeps (local_by c i)
local_keeps (load bs e) i = load_keeps i (numbers bs) e (numbers_bytes bs)
local_keeps (status s) i = status_keeps i s.value s.small
local_keeps (wish w) i = wish_keeps i w
local_keeps key i = key_keeps i
local_keeps (poll_status s) i = poll_status_keeps i s

settle_sound : {A : Type 0} (kind : A → Answer) (deny : ℕ → A) (m : Loop) (o : Outcome A) →
    SoundLoop (loop_after m o) → SoundLoop (settle kind deny m o).0
settle_sound kind deny m (refuse k) s = s
settle_sound kind deny m (done r n) s = s

pub on_loop_sound : (c : Action) (m : Loop) → SoundLoop m → SoundLoop (on_loop c m).0
on_loop_sound (put f) m s = settle_sound plain refusal m (put_in f m) (put_keeps f m s).sound
on_loop_sound (hop i) m s = settle_sound hopped no_hop m (hop_in i m) (hop_keeps i m s).sound
on_loop_sound take m s = settle_sound taken no_take m (take_in m) (take_keeps m s).sound
on_loop_sound (local i c) m s = settle_sound plain refusal m (local_by c i m) (local_keeps c i m s).sound
on_loop_sound (drain b) m s = settle_sound drained no_drain m (drain_in b m) (drain_keeps b m s).sound
on_loop_sound owes m s = s
on_loop_sound (save out) m s = s

-- ---- areas as renderings of lines

pub pair : {A B : Type 0} {x y : A} {v w : B} → x ≡ y → v ≡ w → ◌≡◌ {A = A × B} (x, v) (y, w)
pair e f = rw (e, f)

-- what a step answers, by the loop before it
abbrev pub step_said : Step → Loop → Answer
step_said (call c) m = (on_loop c m).1
step_said (away out lent) m = plain (put_away (area_of m) (numbers out) (numbers lent)).answer

pub step_keeps : (l : line.Loop papers) (s : Step) → SoundLoop (to_loop l) →
    SoundLoop (to_loop (line.run l (step_calls s)).0)
step_keeps l (call c) g = rw (follows c l).loop at (on_loop_sound c (to_loop l) g)
step_keeps l (away out lent) g = g

pub step_same : (l : line.Loop papers) (s : Step) → SoundLoop (to_loop l) →
    ◌≡◌ {A = List ℕ × Answer} ((stepped s (area_of (to_loop l))).area, (stepped s (area_of (to_loop l))).answer)
    (area_of (to_loop (line.run l (step_calls s)).0), step_said s (to_loop l))
step_same l (call c) g =
    pair ((acts_on (to_loop l) g c).0 ∙ ap area_of (follows c l).loop) (acts_on (to_loop l) g c).1
step_same l (away out lent) g =
    pair (away_stays (area_of (to_loop l)) (numbers out) (numbers lent) (area_sound (to_loop l) g)) refl

abbrev pub R : Rendering papers
R =
    record {
      Area = List ℕ;
      Op = Step;
      Answer = Answer;
      op = λ a s. ((stepped s a).area, (stepped s a).answer);
      Good = λ l. SoundLoop (to_loop l);
      render = λ l. area_of (to_loop l);
      calls = step_calls;
      said = λ s l es. step_said s (to_loop l);
      keeps = step_keeps;
      same = step_same;
    }

-- ---- every call of the line is a step

pub writes : (c : line.Call papers) → FairCall (λ f. f < frames) c → calls (action c) ≡ c ∷ []
writes (line.put f) h = rw (lt-ltb f frames h)
writes (line.hop i) h = refl
writes line.take h = refl
writes (line.local i c) h = refl
writes (line.drain b) h = refl

pub puts_fair : (f : ℕ) → Every (FairCall {L = papers} (λ g. g < frames)) (if (ltb f frames) (line.put f))
puts_fair f = go (ltb f frames) refl
  where
    go : (t : Bool) → ltb f frames ≡ t → Every (FairCall {L = papers} (λ g. g < frames)) (if t (line.put f))
    go true e = (ltb-true _ _ e, tt)
    go false e = tt

pub fairs : (c : Action) → Every (FairCall {L = papers} (λ f. f < frames)) (calls c)
fairs (put f) = puts_fair f
fairs (hop i) = (tt, tt)
fairs take = (tt, tt)
fairs (local i c) = (tt, tt)
fairs (drain b) = (tt, tt)
fairs owes = tt
fairs (save out) = tt

pub step_fair : (s : Step) → Every (FairCall {L = papers} (λ f. f < frames)) (step_calls s)
step_fair (call c) = fairs c
step_fair (away out lent) = tt

abbrev pub W : Writing R
W = record { Fair = λ f. f < frames; write = λ c. call (action c); writes = writes; fair = step_fair }

-- ---- the page's histories are these

same_history : (a : List ℕ) (ss : List Step) → history a ss ≡ order.history R a ss
same_history a [] = refl
same_history a (s ∷ ss) = rw (same_history (stepped s a).area ss)

pub same_calls : (ss : List Step) → all_calls ss ≡ calls_of R ss
same_calls [] = refl
same_calls (s ∷ ss) = ap (λ (r : List (line.Call papers)). step_calls s ++ r) (same_calls ss)

same_each : {A : Type 0} (g : Step → Answer → List A) (cs : List Step) (rs : List Answer) →
    each g cs rs ≡ order.read_each R g cs rs
same_each g [] rs = refl
same_each g (c ∷ cs) [] = refl
same_each g (c ∷ cs) (r ∷ rs) = rw (same_each g cs rs)

same_total : (g : Step → Answer → ℕ) (cs : List Step) (rs : List Answer) → total g cs rs ≡ order.read_total R g cs rs
same_total g [] rs = refl
same_total g (c ∷ cs) [] = refl
same_total g (c ∷ cs) (r ∷ rs) = rw (same_total g cs rs)

-- a step that is a call which the line refuses where the area does
abbrev pub Fair : Step → Type 0
Fair (call c) = fair c ≡ true
Fair (away out lent) = ⊥

-- what is refused of a call that the line has
abbrev refused_fair : Action → Answer → ℕ
refused_fair c r = cond (fair c) (refused_by (call c) r) 0

fair_total : (ss : List Step) (rs : List Answer) → Every Fair ss →
    total refused_by ss rs ≡ total (of_call 0 refused_fair) ss rs
fair_total [] rs u = refl
fair_total (s ∷ ss) [] u = refl
fair_total (call c ∷ ss) (r ∷ rs) u = rw (u.0, fair_total ss rs u.1)
fair_total (away out lent ∷ ss) (r ∷ rs) u = absurd u.0

-- what holds of every call holds of every one of some
every : {A : Type 0} {P : A → Type 0} → ((x : A) → P x) → (xs : List A) → Every P xs
every h [] = tt
every h (x ∷ xs) = (h x, every h xs)

-- ---- what is seen of a history on the area of a sound line

module _ (l : line.Loop papers) (good : SoundLoop (to_loop l)) where
  x : List ℕ
  x = area_of (to_loop l)

  pub line_is : line_of (area_of (to_loop l)) ≡ l
  line_is = rw (loop_back (to_loop l) good) ((same_flat papers).same_loop l)

  module _ (ss : List Step) where
    es : List (line.Event papers)
    es = (line.run l (calls_of R ss)).1

    pub area_is : area_left (area_of (to_loop l)) ss ≡ area_of (to_loop (line.run l (calls_of R ss)).0)
    area_is = ap (λ (p : List ℕ × List Answer). p.0) (same_history (area_of (to_loop l)) ss ∙ (through R l ss good).0)

    pub good_is : SoundLoop (to_loop (line.run l (calls_of R ss)).0)
    good_is = (through R l ss good).1

    pub read_those : {A : Type 0} (g : Step → Answer → List A) (e : line.Event papers → List A) →
        Every (Tells R g e) ss →
        each g ss (history (area_of (to_loop l)) ss).1 ≡ told.each e (line.run l (calls_of R ss)).1
    read_those {A} g e h = rw (same_history (area_of (to_loop l)) ss) (same_each g ss _ ∙ read_each_lem R A g e ss h l good)

    read : {A : Type 0} (g : Action → Answer → List A) (e : line.Event papers → List A) →
        ((m : line.Loop papers) (c : Action) →
        g c (on_loop c (to_loop m)).1 ≡ told.each e (line.run m (calls c)).1) →
        each (of_call [] g) ss (history (area_of (to_loop l)) ss).1 ≡ told.each e (line.run l (calls_of R ss)).1
    read {A} g e h = read_those (of_call [] g) e (every tells ss)
      where
        tells : (s : Step) → Tells R (of_call [] g) e s
        tells (call c) m u = h m c
        tells (away out lent) m u = refl

    count : (g : Action → Answer → ℕ) (e : line.Event papers → ℕ) →
        ((m : line.Loop papers) (c : Action) →
        g c (on_loop c (to_loop m)).1 ≡ told.total e (line.run m (calls c)).1) →
        total (of_call 0 g) ss (history (area_of (to_loop l)) ss).1 ≡ told.total e (line.run l (calls_of R ss)).1
    count g e h = rw (same_history (area_of (to_loop l)) ss)
        (same_total (of_call 0 g) ss _ ∙ read_total_lem R (of_call 0 g) e tells l ss good)
      where
        tells : (m : line.Loop papers) (s : Step) → SoundLoop (to_loop m) →
            of_call 0 g s (step_said s (to_loop m)) ≡ told.total e (line.run m (step_calls s)).1
        tells m (call c) u = h m c
        tells m (away out lent) u = refl

    pub puts_are : frames_put (area_of (to_loop l)) ss ≡ told.puts (line.run l (calls_of R ss)).1
    puts_are = read put_by (λ e. told.put_by e) (λ m c. (follows c m).reads.puts)

    pub taken_are : frames_taken (area_of (to_loop l)) ss ≡ told.taken (line.run l (calls_of R ss)).1
    taken_are = read taken_by (λ e. told.taken_by e) (λ m c. (follows c m).reads.taken)

    pub handed_are : (i : ℕ) → all_handed (area_of (to_loop l)) ss i ≡ told.handed (line.run l (calls_of R ss)).1 i
    handed_are i = read (handed_by i) (λ e. told.handed_by i e) (λ m c. (follows c m).reads.handed i)

    pub hops_are : hops_made (area_of (to_loop l)) ss ≡ told.hops_made (line.run l (calls_of R ss)).1
    hops_are = count hops_by (λ e. told.hop_by e) (λ m c. (follows c m).reads.hops)

    pub refused_are : Every Fair ss →
        steps_refused (area_of (to_loop l)) ss ≡ told.refusals (line.run l (calls_of R ss)).1
    refused_are u =
        fair_total ss (history (area_of (to_loop l)) ss).1 u
        ∙ count refused_fair (λ e. told.refusal_by e) (λ m c. (follows c m).reads.refused)

    pub turns_are : (i : ℕ) → turns_of (area_of (to_loop l)) ss i ≡ told.turns (line.run l (calls_of R ss)).1 i
    turns_are i = rw (line_is, same_calls ss)

    -- its turns, as its caller sees them
    pub turns_seen_lem : Drainless ss → (i : ℕ) →
        turns_seen (area_of (to_loop l)) ss i ≡ told.turns (line.run l (calls_of R ss)).1 i
    turns_seen_lem d i = read_those (of_call [] (turn_seen i)) (λ e. told.turn_by i e) (tell ss d)
      where
        tell : (rs : List Step) → Drainless rs → Every (Tells R (of_call [] (turn_seen i)) (λ e. told.turn_by i e)) rs
        tell [] u = tt
        tell (call c ∷ rs) u = (λ m g. (follows c m).reads.turned u.0 i, tell rs u.1)
        tell (away out lent ∷ rs) u = (λ m g. refl, tell rs u.1)

    pub calls_seen_lem : (i : ℕ) → calls_seen (area_of (to_loop l)) ss i ≡
        told.calls_in (told.turns (line.run l (calls_of R ss)).1 i)
    calls_seen_lem i = read (call_seen i) (λ e. told.calls_in (told.turn_by i e)) (λ m c. (follows c m).reads.called i)
        ∙ sym (calls_each (line.run l (calls_of R ss)).1 i)
