-- A row: one part, then n of another width, then n + 1 of a third. Cut and put together it is the same, and a row made
-- of it part by part is cut into the parts that were made.
use mathlib.Core.Path.{◌≡◌, sym, ◌∙◌}
use mathlib.Core.List.{List, [], ◌++◌, map, append-nil}
use Prim.Native.Nat.{ℕ, suc, ◌+◌, ◌*◌}
use native.Mathlib.Omega.{arith}
use lib.ListN.{length, take, drop, length-append, length-map, length-drop, take-append-drop}
use lib.Seq.{length-take-le, take_all, take_at, drop_at, drop-drop}
use Rattle.area.specs.Parts.{parts, join}
use Rattle.area.proofs.Parts.{length_parts, join_parts}
use Rattle.saved.proofs.Wide.{Wide, parts_wide, map_wide, length_wide, cut_wide}

-- these are the parts of a row of widths u, v and w
pub record Row (u v w n : ℕ) (b first : List ℕ) (seconds thirds : List (List ℕ)) : Type 0 where
  pub long : length b ≡ u + v * n + w * suc n
  pub first_is : take u b ≡ first
  pub seconds_are : parts v n (drop u b) ≡ seconds
  pub thirds_are : parts w (suc n) (drop (u + v * n) b) ≡ thirds

module _ (u v w n : ℕ) (b : List ℕ) (long : length b ≡ u + v * n + w * suc n) where
  abbrev seconds : List (List ℕ)
  seconds = parts v n (drop u b)

  abbrev thirds : List (List ℕ)
  thirds = parts w (suc n) (drop (u + v * n) b)

  pub put_together : take u b ++ (join seconds ++ join thirds) ≡ b
  put_together =
      let rest : take (w * suc n) (drop (u + v * n) b) ≡ drop (v * n) (drop u b) =
      take_all (w * suc n) (drop (u + v * n) b) (simp length-drop (omega arith)) ∙ sym (drop-drop (v * n) u b) in
      rw (join_parts v n (drop u b), join_parts w (suc n) (drop (u + v * n) b), rest, take-append-drop)
      (take-append-drop u b)

  pub seconds_wide : Wide v seconds
  seconds_wide = parts_wide v n (drop u b) (simp length-drop (omega arith))

  pub thirds_wide : Wide w thirds
  thirds_wide = parts_wide w (suc n) (drop (u + v * n) b) (simp length-drop (omega arith))

  -- what is made of each part, and the widths that it has
  module _ (u' v' w' : ℕ) (f g h : List ℕ → List ℕ) (fw : (p : List ℕ) → length p ≡ u → length (f p) ≡ u')
      (gw : (p : List ℕ) → length p ≡ v → length (g p) ≡ v') (hw : (p : List ℕ) → length p ≡ w → length (h p) ≡ w')
    where
      pub made : Row u' v' w' n (f (take u b) ++ (join (map g seconds) ++ join (map h thirds)))
          (f (take u b)) (map g seconds) (map h thirds)
      made =
          let p = f (take u b) in
          let ds = map g seconds in
          let ls = map h thirds in
          let dw : Wide v' ds = map_wide g v v' gw seconds seconds_wide in
          let lw : Wide w' ls = map_wide h w w' hw thirds thirds_wide in
          let dn : length ds ≡ n = rw (length-map, length_parts) in
          let ln : length ls ≡ suc n = rw (length-map, length_parts) in
          let pl : length p ≡ u' = fw (take u b) (length-take-le u b (omega arith)) in
          let dl : length (join ds) ≡ v' * n = length_wide v' ds dw ∙ rw dn in
          let ll : length (join ls) ≡ w' * suc n = length_wide w' ls lw ∙ rw ln in
          record {
            long = rw (length-append, length-append, pl, dl, ll) (omega arith);
            first_is = take_at p (join ds ++ join ls) u' pl;
            seconds_are = rw (drop_at p (join ds ++ join ls) u' pl) (rw dn at (cut_wide v' ds (join ls) dw));
            thirds_are =
                rw (
                  ← (drop-drop (v' * n) u' (p ++ (join ds ++ join ls))),
                  drop_at p (join ds ++ join ls) u' pl,
                  drop_at (join ds) (join ls) (v' * n) dl,
                )
                (rw (ln, append-nil) at (cut_wide w' ls [] lw));
          }
