-- Import and export (02, m): what each call answers, and what it leaves of the room that it was lent to write in.
use Rattle.std.specs.Prelude.{ℕ, ◌≡◌, List, ◌++◌, Bool, not, cond, eqb, ltb, length, drop}
use Rattle.bus.specs.Rows.{imported, have_commands, byte_without, exported, are_pairs, frame_without}
use Rattle.bus.specs.declared.MatchAnswer.{MatchAnswer}

-- refusals: a byte or frame without a match, and too short a room
abbrev pub no_match : ℕ
no_match = 11

abbrev pub full : ℕ
full = 6

-- the answer of a refusal, or of none, 0; only beside 11 it has a place
abbrev pub match_answer : (place refusal : ℕ) → MatchAnswer
match_answer p k = record { place = cond (eqb k no_match) p 0; refusal = k }

-- an answer, and the whole room after the call
pub record Written : Type 0 where
  pub answer : MatchAnswer
  pub room : List ℕ

abbrev pub written : MatchAnswer → List ℕ → Written
written r x = record { answer = r; room = x }

-- 11 is asked first, then 6, and either leaves all of the room; else the row is written, and the room past it stays
unfoldable pub writes : (matches : Bool) → (place : ℕ) → (row room : List ℕ) → Written
writes matches p row room =
    cond (not matches) (written (match_answer p no_match) room)
    (cond (ltb (length room) (length row)) (written (match_answer p full) room)
    (written (match_answer p 0) (row ++ drop (length row) room)))

abbrev pub import_of : (bytes room : List ℕ) → Written
import_of bytes room = writes (have_commands bytes) (byte_without bytes) (imported bytes) room

abbrev pub export_of : (frames room : List ℕ) → Written
export_of frames room = writes (are_pairs frames) (frame_without frames) (exported frames) room

-- the answer r and the room x are those: the form of both contracts
abbrev pub Is : Written → MatchAnswer → List ℕ → Type 0
Is w r x = (r ≡ w.answer) × (x ≡ w.room)
