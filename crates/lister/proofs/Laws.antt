-- The laws of the lister: a contract leaves one answer, one area and one buffer, the chunks are the listing, and from
-- set-up on every frame goes round from rest.
use Prim.Native.Nat.{ℕ, ◌<◌}
use mathlib.Core.Path.{◌≡◌, sym, ◌∙◌}
use mathlib.Core.List.{List, [], ◌∷◌}
use mathlib.Core.Bool.{true, ◌&&◌}
use lib.Dec.{eqb, ltb}
use lib.ListN.{length}
use borrow.Author.Tests.{ltb-true}
use Rattle.frame.specs.Messages.{frames}
use Rattle.record.proofs.Both.{right}
use Rattle.text.specs.Digits.{are_digits, number_at}
use Rattle.script.specs.Script.{frame_right}
use Rattle.round.specs.Laws.{AtRest}
use Rattle.round.proofs.Rest.{never_refused, set_up_rests}
use Rattle.lister.specs.Laws.{Unique, ChunksList, AllAccepted, NoneRefused}
use Rattle.lister.proofs.Begin.{line1}
use Rattle.lister.specs.declared.Chunk.{Chunk}
use Rattle.lister.proofs.Chunked.{all_chunks}

same : (r s : Chunk) → r.written ≡ s.written → r.next ≡ s.next → r ≡ s
same r s p q = rw (p, q)

pub unique : Unique
unique d b r s a a' o o' p q = (
  same r s (p.written ∙ sym q.written) (p.next ∙ sym q.next),
  p.area ∙ sym q.area,
  p.out ∙ sym q.out,
)

pub chunks_list : ChunksList
chunks_list = all_chunks

-- a right frame line's number is a frame
right_frame : (line : List ℕ) → frame_right line ≡ true → number_at 0 3 line < frames
unfolding frame_right
right_frame line h =
    let d = are_digits 0 3 line in
    let f = ltb (number_at 0 3 line) frames in
    ltb-true _ _ (right d f (right (eqb (length line) 3) (d && f) h))

from_rest : (lines : List (List ℕ)) (area : List ℕ) → AtRest area → AllAccepted area lines
from_rest [] area rest = tt
from_rest (line ∷ lines) area rest = λ h.
    let a = never_refused (number_at 0 3 line) area (right_frame line h) rest in (a, from_rest lines _ a.rest)

pub none_refused : NoneRefused
none_refused line lines l e = from_rest lines _ (set_up_rests _ _ (line1 line l).bytes e)
