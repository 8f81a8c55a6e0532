-- The laws of bytes and frames, of rows and of the two calls, as statements (02, m).
use Rattle.std.specs.Prelude.{ℕ, ◌*◌, ◌/◌, ◌%◌, ◌≤◌, ◌<◌, ◌≡◌, List, [], ◌∷◌, ◌++◌, map, Bool, true, false, cond, ◌&&◌, eqb, length, get_or, take, drop}
use Rattle.frame.specs.Messages.{Row, frames, lookup, number_of}
use Rattle.frame.specs.Decoding.{message, decoded}
use Rattle.frame.specs.declared.Kind.TheVariants as kind
use Rattle.bus.specs.Codes.{equal_codes, has_command, command_of, has_byte, byte_of, rfc}
use Rattle.bus.specs.Rows.{imported, have_commands, byte_without, exported, are_pairs, frame_without}
use Rattle.bus.specs.Calls.{Written, written, Is, match_answer, import_of, export_of}
use Rattle.bus.specs.declared.MatchAnswer.{MatchAnswer}

-- ---- bytes and frames

-- The codes of eleven messages are equal: byte b and frame 400 + b, of the kind that b's row has
pub record EqualCodes : Type 0 where
  pub eleven : map (λ (r : Row). r.kind) equal_codes ≡
      map number_of
      (kind.Gtl ∷ kind.Sdc ∷ kind.Get ∷ kind.Llo ∷ kind.Dcl ∷ kind.Ppu ∷ kind.Lad ∷ kind.Unl ∷ kind.Tad ∷ kind.Unt ∷
      kind.Sad ∷ [])
  pub of_byte : (b : ℕ) → has_command b ≡ true →
      ((decoded (command_of b)).kind ≡ lookup equal_codes b) × (has_byte (command_of b) ≡ true) × (byte_of (command_of b) ≡ b)
  pub of_frame : (f : ℕ) → has_byte f ≡ true → (has_command (byte_of f) ≡ true) × (command_of (byte_of f) ≡ f)
  -- RFC is the message of that name, and has no byte
  pub of_rfc : (decoded rfc ≡ message (number_of kind.Rfc) 0 0) × (has_byte rfc ≡ false)

-- 05 and 18 do not come through as PPD and EAR, nor do 09 and 19; the frame of a byte without a command has no byte,
-- nor has a number that is no frame
pub record NoneElse : Type 0 where
  pub no_command : (has_command 0x05 ≡ false) × (has_command 0x18 ≡ false) × (has_command 0x09 ≡ false) ×
      (has_command 0x19 ≡ false)
  pub ppd_and_ear : ((decoded (command_of 0x05)).kind ≡ number_of kind.Ppd) ×
      ((decoded (command_of 0x18)).kind ≡ number_of kind.Ear)
  pub no_byte : (b : ℕ) → b < 256 → has_command b ≡ false → has_byte (command_of b) ≡ false
  pub no_frame : (f : ℕ) → frames ≤ f → has_byte f ≡ false

-- ---- rows

-- two frames a byte, and a byte a pair
pub record Needs : Type 0 where
  pub of_import : (bytes : List ℕ) → length (imported bytes) ≡ 2 * length bytes
  pub of_export : (fs : List ℕ) → length (exported fs) ≡ length fs / 2

-- The place of a byte without a command is the first: each before it has one, and that one, if the row does not end
-- before it, has none. A row has no such byte just where the place is its length.
pub record FirstByte (bytes : List ℕ) : Type 0 where
  pub before : (i : ℕ) → i < byte_without bytes → has_command (get_or bytes i 0) ≡ true
  pub there : byte_without bytes < length bytes → has_command (get_or bytes (byte_without bytes) 0) ≡ false
  pub within : byte_without bytes ≤ length bytes
  pub none : have_commands bytes ≡ eqb (byte_without bytes) (length bytes)

-- What stands at each place of a row of pairs: a command with a byte, and RFC, in turn
abbrev pub stands : (place frame : ℕ) → Bool
stands i f = cond (eqb (i % 2) 0) (has_byte f) (eqb f rfc)

-- The same of frames. A row is one of pairs just where the place is its length and its last RFC is there.
pub record FirstFrame (fs : List ℕ) : Type 0 where
  pub before : (i : ℕ) → i < frame_without fs → stands i (get_or fs i 0) ≡ true
  pub there : frame_without fs < length fs → stands (frame_without fs) (get_or fs (frame_without fs) 0) ≡ false
  pub within : frame_without fs ≤ length fs
  pub none : are_pairs fs ≡ (eqb (frame_without fs) (length fs) && eqb (length fs % 2) 0)

-- ---- the calls

-- A contract leaves one answer and one room
abbrev pub MatchUnique : Type 0
MatchUnique = (w : Written) (r s : MatchAnswer) (x y : List ℕ) → Is w r x → Is w s y → (r ≡ s) × (x ≡ y)

-- Import, then export: where the import is accepted, what it wrote is exported as the bytes that were imported
abbrev pub ImportExport : Type 0
ImportExport = (bytes lent room : List ℕ) → (import_of bytes lent).answer.refusal ≡ 0 → length bytes ≤ length room →
    export_of (take (2 * length bytes) (import_of bytes lent).room) room ≡
    written (match_answer 0 0) (bytes ++ drop (length bytes) room)

-- Export, then import: the same of frames
abbrev pub ExportImport : Type 0
ExportImport = (fs lent room : List ℕ) → (export_of fs lent).answer.refusal ≡ 0 → length fs ≤ length room →
    import_of (take (length fs / 2) (export_of fs lent).room) room ≡
    written (match_answer 0 0) (fs ++ drop (length fs) room)
