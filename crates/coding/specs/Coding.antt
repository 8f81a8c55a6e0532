-- The decoder's and the encoder's answers to a caller in C: a refusal is its number and otherwise zeros.
use Rattle.std.specs.Prelude.{ℕ, Option, Some, None}
use Rattle.frame.specs.Decoding.{message}
use Rattle.frame.specs.declared.Message.{Message}
use Rattle.frame.specs.Coding.{bad_frame, decode_of, encode_of}
use Rattle.coding.specs.declared.DecodeAnswer.{DecodeAnswer}
use Rattle.coding.specs.declared.EncodeAnswer.{EncodeAnswer}

abbrev pub no_decoding : ℕ → DecodeAnswer
no_decoding k = record { offset = 0; refusal = k; kind = 0; c1 = 0 }

abbrev pub decoded_as : Option Message → DecodeAnswer
decoded_as (Some m) = record { offset = m.offset; refusal = 0; kind = m.kind; c1 = m.c1 }
decoded_as None = no_decoding bad_frame

abbrev pub decode_answer : ℕ → DecodeAnswer
decode_answer f = decoded_as (decode_of f)

abbrev pub no_encoding : ℕ → EncodeAnswer
no_encoding k = record { frame = 0; refusal = k }

abbrev pub encoded_as : Option ℕ → EncodeAnswer
encoded_as (Some f) = record { frame = f; refusal = 0 }
encoded_as None = no_encoding bad_frame

abbrev pub encode_answer : (kind offset c1 : ℕ) → EncodeAnswer
encode_answer k o c = encoded_as (encode_of (message k o c))
