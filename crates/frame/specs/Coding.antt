-- What the decoder and the encoder answer to any numbers (01, "Frames and their kinds"; 02, g).
use Rattle.std.specs.Prelude.{ℕ, Bool, ◌&&◌, cond, ltb, Option, Some, None}
use Rattle.frame.specs.Messages.{frames}
use Rattle.frame.specs.Decoding.{decoded, offsets_of, c1s_of, frame_of}
use Rattle.frame.specs.declared.Message.{Message}

-- The number of the refusal BadFrame
abbrev pub bad_frame : ℕ
bad_frame = 4

-- The decoder answers the decoding of a frame, and refuses a number over 2,047
unfoldable pub decode_of : ℕ → Option Message
decode_of f = cond (ltb f frames) (Some (decoded f)) None

-- A kind of the list, an offset in it, and a C1 that it can have: 0, or 1 where the kind has a C1
abbrev pub in_list : Message → Bool
in_list m = ltb m.offset (offsets_of m.kind) && ltb m.c1 (c1s_of m.kind)

-- The encoder answers their frame, and refuses all else
unfoldable pub encode_of : Message → Option ℕ
encode_of m = cond (in_list m) (Some (frame_of m)) None
