-- What each call of the lister did, from what it wrote and left, and which way its tests went.
use Prim.Native.Nat.{ℕ, ◌+◌, ◌-◌, ◌*◌, ◌≤◌, ◌<◌}
use mathlib.Core.Path.{◌≡◌, refl, sym, ap, ◌∙◌}
use mathlib.Core.List.{List, [], ◌++◌, map}
use mathlib.Core.Bool.{Bool, true, false, ◌&&◌, cond}
use native.Mathlib.Nat.{zero-add, add-sub_cancel_left}
use native.Mathlib.Omega.{arith}
use lib.Dec.{eqb, leb}
use lib.ListN.{length, take, drop, take-append-drop, length-append, length-take, length-drop}
use lib.Seq.{length-take-le, take-length, get_or-take}
use borrow.Author.Tests.{eqb-true, eq-eqb, leb-true, le-leb, lt-ltb, le-ltb}
use Rattle.std.specs.Prelude.{Some, None}
use Rattle.record.proofs.Both.{left, right, never}
use Rattle.record.specs.Parts.{splice}
use Rattle.record.specs.Sound.{allowed}
use Rattle.area.specs.Sizes.{most_devices, is_count, item_size, area_size}
use Rattle.area.specs.Parts.{parts, join, all}
use Rattle.area.specs.Loop.{count_in, shaped_with, judge_with, judge_of, area_of, unsound}
use Rattle.area.proofs.Parts.{rest_is}
use Rattle.area.proofs.Areas.{judge_zero, is_shaped}
use Rattle.calls.specs.Outcome.{After, after, Is}
use Rattle.calls.specs.SetUp.{items_of, powered_on, set_up_of}
use Rattle.byte_runs.specs.Bytes.{index_of, slice}
use Rattle.text.specs.Words.{newline}
use Rattle.text.specs.Digits.{number_at}
use Rattle.text.specs.Out.{bad_line, long_line}
use Rattle.round.specs.Round.{text_room, round_text, round_area}
use Rattle.script.specs.Script.{word_size, group_size, devices_in, loop_right, loop_in, item_of, items_in, frame_right, frame_in}
use Rattle.text.specs.Write.{Wrote}
use Rattle.lister.specs.Listing.{longest}
use Rattle.lister.specs.Chunks.{area_room, roomy, size_in, loop_bytes, does, line_at, set_up_in}
use Rattle.lister.specs.Inner.{SetUp}
use Rattle.lister.specs.Chunks.{set_up_does, first_does, start_does, line_does, ready, step_does, Does, Did}
use Rattle.lister.specs.declared.Chunk.{Chunk}
use Rattle.lister.specs.declared.Next.{Next}
use Rattle.lister.proofs.Begin.{items_long, set_up_refused, set_up_done}

pub did : {text b b' a a' : List ℕ} {w : ℕ} {next : Next} {r : Chunk} →
    Wrote text 0 b w b' → r.written ≡ w → r.next ≡ next → a' ≡ a → Did (does text next a) b r a' b'
did {text} w p q e = record { written = p ∙ w.behind ∙ zero-add (length text); next = q; area = e; out = w.is }

-- ---- line 1

-- what a right line 1 says
pub record Devices (line : List ℕ) (n : ℕ) : Type 0 where
  pub count : devices_in line ≡ n
  pub good : loop_right line ≡ true
  pub some : 1 ≤ n
  pub few : n ≤ most_devices

module _ (line : List ℕ) where
  abbrev range : Bool
  range = is_count most_devices (devices_in line)

  pub devices : (n : ℕ) → loop_in line ≡ Some n → Devices line n
  devices n h = go (loop_right line) range refl refl h
    where
      go : (t u : Bool) → loop_right line ≡ t → range ≡ u →
          cond (t && u) (Some (devices_in line)) None ≡ Some n → Devices line n
      go true true p q e =
          let c : devices_in line ≡ n = cc in
          let d = devices_in line in
          record {
            count = c;
            good = p;
            some = rw c at (leb-true 1 d (left (leb 1 d) (leb d most_devices) q));
            few = rw c at (leb-true d most_devices (right (leb 1 d) (leb d most_devices) q));
          }
      go true false p q e = let z : ◌≡◌ {A = ℕ} 0 1 = cc in absurd (omega arith)
      go false u p q e = let z : ◌≡◌ {A = ℕ} 0 1 = cc in absurd (omega arith)

  -- the devices set up
  pub set_up_told : (items : List ℕ) {area part : List ℕ} {n size r : ℕ} → Devices line n → size ≡ area_size n →
      take (item_size * n) items ≡ join (map item_of (parts group_size n
      (take (length line - word_size) (drop word_size line)))) →
      Is (set_up_of (take size area) (take (item_size * n) items)) r part → SetUp line area r (part ++ drop size area)
  set_up_told items d e i s =
      let is = rw (e, i, rest_is word_size line, ← d.count) at s in
      record { refusal = is.0; area = rw (e, ← d.count, is.1) }

  no_range : range ≡ false → (1 ≤ devices_in line) → (devices_in line ≤ most_devices) → ⊥
  no_range q s f =
      let t : true ≡ false = rw (le-leb 1 (devices_in line) s, le-leb (devices_in line) most_devices f) at q in
      let z : ◌≡◌ {A = ℕ} 0 1 = cc in
      omega arith

  -- a wrong line 1
  pub first_wrong : (area : List ℕ) → area_room ≤ length area → loop_in line ≡ None →
      first_does line area ≡ does (bad_line 1) Next.End area
  unfolding first_does
  first_wrong area lent h = go (loop_right line) range refl refl h
    where
      go : (t u : Bool) → loop_right line ≡ t → range ≡ u →
          cond (t && u) (Some (devices_in line)) None ≡ None →
          cond t (set_up_does (area_size (devices_in line)) line (set_up_in line area) area) (does (bad_line 1) Next.End area)
          ≡ does (bad_line 1) Next.End area
      go true true p q e = let z : ◌≡◌ {A = ℕ} 0 1 = cc in absurd (omega arith)
      go true false p q e =
          rw (set_up_refused (take (area_size (devices_in line)) area) (items_in line) (devices_in line) (items_long line)
          (no_range q) (λ m. rw length-take (omega arith)))
      go false u p q e = refl

  -- a set-up that is refused, or not
  module _ {area area' : List ℕ} {n r : ℕ} (d : Devices line n) (lent : area_room ≤ length area)
      (s : SetUp line area r area') where
    abbrev size : ℕ
    size = area_size (devices_in line)

    abbrev powered : After ℕ
    powered = after 0 (area_of (powered_on (devices_in line) (items_in line)))

    set_up_is : set_up_in line area ≡ cond (all allowed (items_of (devices_in line) (items_in line))) powered
        (after unsound (take size area))
    set_up_is =
        let c = d.count in
        set_up_done (take size area) (items_in line) (devices_in line) (omega (arith, d.some)) (omega (arith, d.few))
        (length-take-le size area (omega (arith, d.few))) (items_long line)

    pub first_refused : (r ≡ 0 → ⊥) → (first_does line area ≡ does (bad_line 1) Next.End area) × (area' ≡ area)
    unfolding first_does
    first_refused h = go (all allowed (items_of (devices_in line) (items_in line))) set_up_is
      where
        go : (t : Bool) → set_up_in line area ≡ cond t powered (after unsound (take size area)) →
            (cond (loop_right line) (set_up_does size line (set_up_in line area) area) (does (bad_line 1) Next.End area)
            ≡ does (bad_line 1) Next.End area)
            × (area' ≡ area)
        go true e = absurd (h (s.refusal ∙ rw e))
        go false e = (rw (d.good, e), s.area ∙ rw (e, take-append-drop size area))

    pub first_done : r ≡ 0 → first_does line area ≡ does [] (Next.Line (length line + 1) 2) area'
    unfolding first_does
    first_done h = rw (d.good, s.area, eq-eqb (set_up_in line area).answer 0 (sym s.refusal ∙ h))

-- ---- what is lent

pub record Lent (a : List ℕ) (room : ℕ) : Type 0 where
  pub area : area_room ≤ length a
  pub buffer : text_room ≤ room

pub lent : (a : List ℕ) (room : ℕ) → roomy a room ≡ true → Lent a room
lent a room h =
    let l = leb area_room (length a) in
    let r = leb text_room room in
    record { area = leb-true area_room (length a) (left l r h); buffer = leb-true text_room room (right l r h) }

module _ (n : ℕ) (a : List ℕ) (room : ℕ) where
  pub not_roomy : roomy a room ≡ false → ready n a room ≡ false
  unfolding ready
  not_roomy h = rw h

  -- byte 0 is among the loop's bytes
  same_count : count_in (loop_bytes a) ≡ count_in a
  same_count = get_or-take (size_in a) a 0 0 (omega arith)

  pub not_count : is_count most_devices (count_in a) ≡ false → ready n a room ≡ false
  unfolding ready judge_with shaped_with
  not_count h = rw (same_count, h, never, never)

  pub ready_is : roomy a room ≡ true → ready n a room ≡ (leb n longest && eqb (judge_of (loop_bytes a)) 0)
  unfolding ready
  ready_is h = rw h

  pub record Ready : Type 0 where
    pub lent : Lent a room
    pub few : count_in a ≤ most_devices
    pub number : n ≤ longest
    pub judged : judge_of (loop_bytes a) ≡ 0

  pub is_ready : ready n a room ≡ true → Ready
  unfolding ready
  is_ready h =
      let p = roomy a room in
      let r = leb n longest in
      let s = eqb (judge_of (loop_bytes a)) 0 in
      let h1 = right p (r && s) h in
      let j = eqb-true (judge_of (loop_bytes a)) 0 (right r s h1) in
      record {
        lent = lent a room (left p (r && s) h);
        few = rw same_count at (is_shaped (loop_bytes a) (judge_zero (loop_bytes a) j).0).few;
        number = leb-true n longest (left r s h1);
        judged = j;
      }

-- ---- the line that was found

pub found : (input : List ℕ) (at e : ℕ) → e ≡ at + index_of newline (slice at (length input) input) →
    take (e - at) (drop at input) ≡ line_at at input
found input at e h =
    let whole : take (length input - at) (drop at input) ≡ drop at input =
    rw (← length-drop at input) (take-length (drop at input)) in
    let f : e ≡ at + index_of newline (drop at input) = rw whole at h in
    rw (f, add-sub_cancel_left at (index_of newline (drop at input)))

-- ---- the first call

module _ (input area : List ℕ) (room : ℕ) where
  pub start_refused : roomy area room ≡ false → start_does input area room ≡ does [] Next.Refused area
  unfolding start_does
  start_refused h = rw h

  pub start_long : roomy area room ≡ true → longest < length input →
      start_does input area room ≡ does long_line Next.End area
  unfolding start_does
  start_long h l = rw (h, lt-ltb longest (length input) l)

  pub start_first : roomy area room ≡ true → length input ≤ longest →
      start_does input area room ≡ first_does (line_at 0 input) area
  unfolding start_does
  start_first h l = rw (h, le-ltb longest (length input) l)

-- ---- a later call

module _ (input area : List ℕ) (at n room : ℕ) where
  pub step_refused : ready n area room ≡ false → step_does input at n area room ≡ does [] Next.Refused area
  unfolding step_does
  step_refused h = rw h

  pub step_end : ready n area room ≡ true → length input ≤ at → step_does input at n area room ≡ does [] Next.End area
  unfolding step_does
  step_end h l = rw (h, le-ltb at (length input) l)

  pub step_line : ready n area room ≡ true → at < length input →
      step_does input at n area room ≡ line_does (line_at at input) at n area
  unfolding step_does
  step_line h l = rw (h, lt-ltb at (length input) l)

module _ (line : List ℕ) (at n : ℕ) (area : List ℕ) where
  pub line_wrong : frame_in line ≡ None → line_does line at n area ≡ does (bad_line n) Next.End area
  unfolding line_does
  line_wrong h = go (frame_right line) refl h
    where
      go : (t : Bool) → frame_right line ≡ t → cond t (Some (number_at 0 3 line)) None
          ≡ None →
          line_does line at n area ≡ does (bad_line n) Next.End area
      go true p e = let z : ◌≡◌ {A = ℕ} 0 1 = cc in absurd (omega arith)
      go false p e = rw p

  -- the frame goes round in the first bytes of the lent area
  pub line_round : {out out' part : List ℕ} {frame size w : ℕ} {r : Chunk} → frame_in line ≡ Some frame →
      size ≡ size_in area →
      (part ≡ round_area frame (take size area)) × (Wrote (round_text frame (take size area)) 0 out w out') →
      r.written ≡ w → r.next ≡ Next.Line (at + length line + 1) (n + 1) →
      Did (line_does line at n area) out r (part ++ drop size area) out'
  unfolding line_does
  line_round {out} {out'} {part} {frame} {size} {w} {r} h s d p q = go (frame_right line) refl h
    where
      go : (t : Bool) → frame_right line ≡ t → cond t (Some (number_at 0 3 line)) None
          ≡ Some frame →
          Did (line_does line at n area) out r (part ++ drop size area) out'
      go true k e =
          let f : frame ≡ number_at 0 3 line = cc in
          let c = rw (s, f) at d in
          rw (k, s) (did c.1 p q (rw c.0))
      go false k e = let z : ◌≡◌ {A = ℕ} 0 1 = cc in absurd (omega arith)

-- ---- what a caller has of it: the text stands within the buffer

pub fits : {d : Does} {b a' b' : List ℕ} {r : Chunk} → Did d b r a' b' → length b' ≡ length b → r.written ≤ length b'
unfolding splice
fits {d} {b} {a'} {b'} h e =
    let l = simp (length-append, length-take, length-drop) at (ap length h.out) in omega (arith, h.written, l)
