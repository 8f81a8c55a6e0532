-- Texts written one behind the other are their join, written at once; and writing keeps a buffer's length.
use Prim.Native.Nat.{ℕ, ◌+◌, ◌≤◌}
use mathlib.Core.Path.{◌≡◌, sym, ◌∙◌}
use mathlib.Core.List.{List, [], ◌++◌, append_assoc}
use native.Mathlib.Nat.{add-zero, add_assoc}
use native.Mathlib.Omega.{arith}
use lib.ListN.{length, take, drop, take-append-drop, length-append, length-take, length-drop}
use lib.Seq.{length-take-le, take-append_seam, drop-append-add, drop-drop, take_at}
use Rattle.record.specs.Parts.{splice}
use Rattle.text.specs.Write.{Wrote}

-- a text put in behind a first part
behind : (h x p : List ℕ) (n : ℕ) → length h ≡ n → splice n p (h ++ x) ≡ h ++ (p ++ drop (length p) x)
unfolding splice
behind h x p n e = rw (← e, take-append_seam h x, drop-append-add h x (length p))

joined : (t u b : List ℕ) (at : ℕ) → at ≤ length b → splice (at + length t) u (splice at t b) ≡ splice at (t ++ u) b
unfolding splice
joined t u b at h =
    rw (← append_assoc (take at b) t (drop (at + length t) b))
    (behind (take at b ++ t) (drop (at + length t) b) u (at + length t) (simp (length-append, length-take-le at b h))
    ∙ simp (append_assoc, drop-drop, length-append, add_assoc))

pub kept : (t b : List ℕ) (at : ℕ) → at + length t ≤ length b → length (splice at t b) ≡ length b
unfolding splice
kept t b at h = simp (length-append, length-take, length-drop) (omega arith)

-- one text, then another
pub next : {t u b c d : List ℕ} {at r s : ℕ} → at ≤ length b → Wrote t at b r c → Wrote u r c s d →
    Wrote (t ++ u) at b s d
next {t} {u} {b} {c} {d} {at} {r} {s} h p q =
    record {
      is = q.is ∙ rw (p.is, p.behind) (joined t u b at h);
      behind = q.behind ∙ rw (p.behind, length-append t u) (add_assoc at (length t) (length u));
    }

-- the length afterwards
pub long : {t b c : List ℕ} {at r : ℕ} → at + length t ≤ length b → Wrote t at b r c → length c ≡ length b
long {t} {b} {c} {at} h p = rw p.is (kept t b at h)

-- what stands before the place behind the text
pub front : {t b c : List ℕ} {at r : ℕ} → at ≤ length b → Wrote t at b r c → take r c ≡ take at b ++ t
unfolding splice
front {t} {b} {c} {at} {r} h p =
    rw (p.behind, p.is, ← append_assoc (take at b) t (drop (at + length t) b))
    (take_at (take at b ++ t) (drop (at + length t) b) (at + length t) (simp (length-append, length-take-le at b h)))

-- nothing written
pub nothing : (b : List ℕ) (at : ℕ) → Wrote [] at b at b
unfolding splice
nothing b at = record { is = rw (add-zero at, take-append-drop at b); behind = sym (add-zero at) }
