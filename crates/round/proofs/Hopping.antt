-- Devices that hop one after the other: what the first ones left and wrote, and what the others do, is what all do.
use Prim.Native.Nat.{ℕ, suc, ◌+◌, ◌-◌, ◌*◌, ◌≤◌, ◌<◌}
use mathlib.Core.Path.{◌≡◌, refl, sym, ap, ◌∙◌}
use mathlib.Core.List.{List, [], ◌++◌, append_assoc, append-nil}
use mathlib.Core.Bool.{Bool, true, false, cond}
use native.Mathlib.Nat.{sub-zero}
use native.Mathlib.Numerals.{add-one}
use native.Mathlib.Omega.{arith}
use lib.Dec.{eqb}
use lib.ListN.{length, take, length-append}
use Rattle.area.specs.Loop.{loop_of, count_in}
use Rattle.calls.specs.Outcome.{Is, after_of}
use Rattle.calls.specs.Calls.{no_hop, hop_in, hop_of, take_of}
use Rattle.calls.specs.declared.HopAnswer.{HopAnswer}
use Rattle.calls.specs.declared.TakeAnswer.{TakeAnswer}
use Rattle.calls.proofs.Outcomes.{call_done}
use Rattle.text.specs.Out.{hand_size, hand_line, frame_line}
use Rattle.round.specs.Round.{handed, hops_text, hops_area, put_area, hopped_area, round_text, round_area}
use Rattle.round.specs.Round.{text_room, Hopped}
use Rattle.text.specs.Write.{Wrote}
use Rattle.text.proofs.Splices.{next, front, long, nothing}
use Rattle.text.proofs.Numbers.{two_digits}
use Rattle.round.proofs.Held.{Area, judged, counted, few, put_held, hop_held}

-- a hand line, or nothing, is short
pub handed_short : (i : ℕ) (hop : HopAnswer) → i < 100 → length (handed i hop) ≤ hand_size
handed_short i hop h = go (eqb hop.handed 1)
  where
    go : (t : Bool) → length (cond t (hand_line i hop.byte hop.end) []) ≤ hand_size
    go true = simp length-append (omega (arith, two_digits i h))
    go false = omega arith

-- one device more
area_more : (k i : ℕ) (area : List ℕ) → hops_area (suc k) i area ≡ hops_area k (suc i) (hop_of area i).area
unfolding hops_area
area_more k i area = refl

text_more : (k i : ℕ) (area : List ℕ) →
    hops_text (suc k) i area ≡ handed i (hop_of area i).answer ++ hops_text k (suc i) (hop_of area i).area
unfolding hops_text
text_more k i area = refl

module _ (n : ℕ) (a b : List ℕ) where
  -- device i is next: area and buffer as they are, and the place behind the text
  pub record Hopping (i : ℕ) (area : List ℕ) (at : ℕ) (buffer : List ℕ) : Type 0 where
    pub held : Area n area
    pub within : i ≤ n
    pub areas : hops_area n 0 a ≡ hops_area (n - i) i area
    pub texts : hops_text n 0 a ≡ take at buffer ++ hops_text (n - i) i area
    pub wrote : Wrote (take at buffer) 0 b at buffer
    pub short : at ≤ hand_size * i
    pub size : length buffer ≡ length b

  pub starts : Area n a → Hopping 0 a 0 b
  starts h = record {
    held = h;
    within = omega arith;
    areas = rw sub-zero;
    texts = rw sub-zero;
    wrote =
        nothing b 0;
    short = omega arith;
    size = refl;
  }

  pub hops : (i : ℕ) (area : List ℕ) (at : ℕ) (buffer : List ℕ) (hop : HopAnswer) (area' : List ℕ) (r : ℕ)
      (buffer' : List ℕ) →
      text_room ≤ length b → Hopping i area at buffer → i < n →
      Is (after_of no_hop area (hop_in i (loop_of area))) hop area' →
      Wrote (handed i hop) at buffer r buffer' → Hopping (i + 1) area' r buffer'
  hops i area at buffer hop area' r buffer' room h l e w =
      let done = call_done no_hop (hop_in i) area (judged h.held) in
      let is : Is (hop_of area i) hop area' = rw done e in
      let more : n - i ≡ suc (n - (i + 1)) = omega arith in
      let short = h.short in
      let line = handed_short i hop (omega (arith, few h.held)) in
      let within : at + length (handed i hop) ≤ length buffer = omega (arith, few h.held, h.size) in
      let before : take r buffer' ≡ take at buffer ++ handed i hop = front (omega arith) w in
      record {
        held = rw is.1 (hop_held i h.held);
        within = omega arith;
        areas = h.areas ∙ rw (more, is.1, add-one) (area_more (n - suc i) i area);
        texts = h.texts ∙ rw (before, append_assoc, more, is.0, is.1, add-one)
            (ap (λ (t : List ℕ). take at buffer ++ t) (text_more (n - suc i) i area));
        wrote = rw before (next (omega arith) h.wrote w);
        short = omega (arith, w.behind);
        size = long within w ∙ h.size;
      }

  pub ends : (i : ℕ) (area : List ℕ) (at : ℕ) (buffer : List ℕ) → text_room ≤ length b → count_in a ≡ n →
      Hopping i area at buffer → n ≤ i → Hopped a b at area buffer
  unfolding hops_area hops_text
  ends i area at buffer room c h l =
      let none : n - i ≡ 0 = omega arith in
      let short = h.short in
      let within = h.within in
      record {
        area = sym (rw c (h.areas ∙ rw none));
        text = rw (c, h.texts, none, append-nil) h.wrote;
        room = omega (arith, few h.held);
      }

-- ---- put, hops and take

module _ (frame : ℕ) {n : ℕ} {a : List ℕ} (h : Area n a) where
  same_count : count_in (put_area frame a) ≡ count_in a
  same_count = counted (put_held frame h) ∙ sym (counted h)

  module _ {put hop last b b' : List ℕ} {r : ℕ} {t : TakeAnswer}
      (p : put ≡ put_area frame a) (k : Hopped put b r hop b') (e : Is (take_of hop) t last) where
    hopped : hop ≡ hopped_area frame a
    hopped = k.area ∙ rw (p, same_count)

    pub round_area_lem : last ≡ round_area frame a
    round_area_lem = e.1 ∙ rw hopped

    pub round_text_lem : {s : ℕ} {b'' : List ℕ} → Wrote (frame_line frame t.frame) r b' s b'' →
        Wrote (round_text frame a) 0 b s b''
    round_text_lem w =
        next (omega arith) (rw (p, same_count) at k.text) (rw (e.0, hopped) at w)
