-- Head, ID and data, copied in one behind the other, are the whole record.
use Rattle.std.proofs.Common.{rules, ◌≡◌, List, ℕ, [], ◌++◌, length, take, drop, arith}
use Rattle.std.proofs.Common.{append_assoc, append-nil, length-append, length-drop}
use Rattle.std.proofs.Math.Seq.{take-append_seam}
use Rattle.std.proofs.lemmas.Slice.{take-put_mid, drop-put_mid}
use borrow.Rule.Slice.PartMut.{put_mid}
use lib.ListN.{drop_of_length-le}
use Rattle.device.proofs.Bytes.{bytes_all}
use Rattle.record.specs.Record.{head_of, record_of}
use Rattle.record_write.proofs.write.Goals as goal

laid : (r h i l : List ℕ) → length r ≡ 64 → length h ≡ 24 → length i ≡ 8 → length l ≡ 32 →
    put_mid 32 32 (put_mid 24 8 (h ++ drop 24 r) i) l ≡ h ++ (i ++ l)
laid r h i l er eh ei el =
    let a = h ++ drop 24 r in
    let wide : length a ≡ 64 = omega (arith, length-append {A = ℕ}, length-drop {A = ℕ}) in
    let head : take 24 a ≡ h = rw eh at (take-append_seam h (drop 24 r)) in
    let front = take-put_mid 24 8 a i 32 (omega arith) (omega arith) in
    let none : drop 32 (drop 32 (put_mid 24 8 a i)) ≡ [] =
    rw (drop-put_mid 24 8 a i 32 (omega arith) (omega arith) (omega arith))
    (drop_of_length-le (drop 32 a) {i = 32} (omega (arith, length-drop {A = ℕ}))) in
    rw (none, front, head, append-nil) (append_assoc h i l)

pub returns : goal.returns
unfolding record_of
returns c =
    let d = c.args.d in
    rw (
      c.copy_from_slice.ensures.after,
      c.copy_from_slice-2.ensures.after,
      c.copy_from_slice-3.ensures.after,
      ← bytes_all 8 d.id (search rules),
      ← bytes_all 32 d.load (search rules),
    )
    (laid c.args.rec.now (head_of d) d.id d.load (search rules) (search rules) (search rules) (search rules))
