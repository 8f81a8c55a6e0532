-- Items filled in group by group: those written so far and those of the groups that are left are all of them.
use Prim.Native.Nat.{ℕ, zero, suc, ◌+◌, ◌*◌, ◌≤◌, ◌<◌}
use mathlib.Core.Path.{◌≡◌, refl, sym, ap, ◌∙◌}
use mathlib.Core.List.{List, [], ◌++◌, map, append_assoc, append-nil}
use mathlib.Core.Bool.{true}
use native.Mathlib.Omega.{arith}
use lib.ListN.{length, take, drop, length-append}
use lib.Seq.{length-take-le, take_at, drop_at}
use Rattle.record.proofs.Both.{left, right}
use Rattle.area.specs.Sizes.{item_size}
use Rattle.area.specs.Parts.{parts, join, all}
use Rattle.area.proofs.Chunks.{parts_taken}
use Rattle.script.specs.Script.{group_size, group_right, item_of}
use Rattle.text.specs.Write.{Wrote}
use Rattle.text.proofs.Splices.{nothing, next, long}

-- the k groups that are left are right, and the items of those before them, `done`, are written up to the place
pub record Filling (n : ℕ) (groups into : List ℕ) (k : ℕ) (rest : List ℕ) (at : ℕ) (now : List ℕ) : Type 0 where
  pub done : List ℕ
  pub enough : length rest ≡ group_size * k
  pub sound : all group_right (parts group_size k rest) ≡ true
  pub place : at + item_size * k ≡ item_size * n
  pub same : join (map item_of (parts group_size n groups)) ≡ done ++ join (map item_of (parts group_size k rest))
  pub wrote : Wrote done 0 into at now
  pub size : length now ≡ length into

-- the next group
pub record Next (x rest rest' : List ℕ) : Type 0 where
  pub cut : rest ≡ x ++ rest'
  pub wide : length x ≡ group_size

module _ (n : ℕ) (groups into : List ℕ) where
  pub none_filled : group_size * n ≤ length groups → all group_right (parts group_size n groups) ≡ true →
      Filling n groups into n (take (group_size * n) groups) 0 into
  none_filled h s =
      record {
        done = [];
        enough = length-take-le (group_size * n) groups h;
        sound = rw (parts_taken group_size n groups) s;
        place = omega arith;
        same = rw (parts_taken group_size n groups) refl;
        wrote = nothing into 0;
        size = refl;
      }

  module _ (x rest rest' : List ℕ) (at : ℕ) (now : List ℕ) (e : Next x rest rest') where
    pub there : (k : ℕ) → Filling n groups into k rest at now → 0 < k
    there k h = omega (arith, h.enough, ap length e.cut, length-append x rest', e.wide)

    first : take group_size rest ≡ x
    first = rw e.cut (take_at x rest' group_size e.wide)

    others : drop group_size rest ≡ rest'
    others = rw e.cut (drop_at x rest' group_size e.wide)

    pub next_right : (k : ℕ) → Filling n groups into k rest at now → group_right x ≡ true
    unfolding all parts
    next_right zero h = absurd (omega (arith, there 0 h))
    next_right (suc k) h =
        rw first at (left (group_right (take group_size rest)) (all group_right (parts group_size k (drop group_size rest))) h.sound)

    pub fill : (k : ℕ) (now' : List ℕ) (r : ℕ) → item_size * n ≤ length into → Filling n groups into k rest at now →
        Wrote (item_of x) at now r now' → (j : ℕ) × Filling n groups into j rest' r now'
    unfolding all parts join
    fill zero now' r b h w = absurd (omega (arith, there 0 h))
    fill (suc k) now' r b h w =
        let p = h.place in
        let s = h.size in (
          k,
          record {
            done = h.done ++ item_of x;
            enough = omega (arith, h.enough, ap length e.cut, length-append x rest', e.wide);
            sound = rw others at (right (group_right (take group_size rest)) (all group_right (parts group_size k (drop group_size rest))) h.sound);
            place = omega (arith, w.behind);
            same = rw (first, others) at h.same ∙ sym (append_assoc h.done (item_of x) _);
            wrote = next (omega arith) h.wrote w;
            size = long (omega arith) w ∙ h.size;
          },
        )

  pub filled : (k : ℕ) (rest : List ℕ) (at : ℕ) (now : List ℕ) → Filling n groups into k rest at now →
      length rest < group_size → Wrote (join (map item_of (parts group_size n groups))) 0 into (item_size * n) now
  unfolding all parts join
  filled zero rest at now h i =
      let e : at ≡ item_size * n = omega (arith, h.place) in
      rw (← e, h.same ∙ append-nil h.done) h.wrote
  filled (suc k) rest at now h i = absurd (omega (arith, h.enough))
