-- The laws of the lister, as statements: its contracts leave one answer, one area and one buffer, its chunks, one after
-- the other, are the listing, and no frame's call is refused. Their proofs are in proofs/Laws.antt.
use Rattle.std.specs.Prelude.{ℕ, zero, suc, ◌≤◌, ◌≡◌, List, [], ◌∷◌, ◌++◌, true, length}
use Rattle.text.specs.Digits.{number_at}
use Rattle.script.specs.Script.{loop_right, frame_right}
use Rattle.round.specs.Round.{text_room, round_area}
use Rattle.round.specs.Laws.{Accepted}
use Rattle.lister.specs.Listing.{set_up, listing}
use Rattle.lister.specs.Chunks.{area_room, Does, start_does, step_does, Did}
use Rattle.lister.specs.declared.Chunk.{Chunk}
use Rattle.lister.specs.declared.Next.{Next}

-- A contract leaves one answer, one area and one buffer
abbrev pub Unique : Type 0
Unique =
    (d : Does) (b : List ℕ) (r s : Chunk) (a a' o o' : List ℕ) → Did d b r a o → Did d b s a' o' →
    (r ≡ s) × (a ≡ a') × (o ≡ o')

-- one thing of a line to go on at, and another where there is none
abbrev pub on_line : {A : Type 0} → A → (ℕ → ℕ → A) → Next → A
on_line none line (Next.Line at n) = line at n
on_line none line Next.End = none
on_line none line Next.Refused = none

-- k later calls, each over the area that the one before left: their texts, and where the listing then goes on
abbrev pub text_from : ℕ → List ℕ → Next → List ℕ → ℕ → List ℕ
text_from zero input next area room = []
text_from (suc k) input next area room =
    on_line []
    (λ at n. let d = step_does input at n area room in d.text ++ text_from k input d.next d.area room)
    next

abbrev pub next_from : ℕ → List ℕ → Next → List ℕ → ℕ → Next
next_from zero input next area room = next
next_from (suc k) input next area room =
    on_line next (λ at n. let d = step_does input at n area room in next_from k input d.next d.area room) next

-- The chunks, one after the other, are the listing, and there are no more of them than the input has bytes
abbrev pub ChunksList : Type 0
ChunksList =
    (input area : List ℕ) (room : ℕ) → area_room ≤ length area → text_room ≤ room →
    ((start_does input area room).text
    ++ text_from (length input) input (start_does input area room).next (start_does input area room).area room
    ≡ listing input)
    × (next_from (length input) input (start_does input area room).next (start_does input area room).area room
    ≡ Next.End)

-- each frame line up to the first wrong one, over the area that those before it left, goes round without a refusal
abbrev pub AllAccepted : List ℕ → List (List ℕ) → Type 0
AllAccepted area [] = Unit {0}
AllAccepted area (line ∷ lines) =
    frame_right line ≡ true →
    Accepted (number_at 0 3 line) area × AllAccepted (round_area (number_at 0 3 line) area) lines

-- No call of a script's frames is refused: what is printed of a frame is what the devices made of it
abbrev pub NoneRefused : Type 0
NoneRefused =
    (line : List ℕ) (lines : List (List ℕ)) → loop_right line ≡ true → (set_up line).answer ≡ 0 →
    AllAccepted (set_up line).area lines
