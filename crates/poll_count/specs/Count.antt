-- The count over an IDY that came back from a poll (02, f): how many of its eight data bits are one, and the number of
-- the lowest of them, read off the bits place by place.
use Rattle.std.specs.Prelude.{ℕ, zero, suc, ◌+◌, cond, eqb, Option, Some, None}
use Rattle.frame.specs.Decoding.{idy}
use Rattle.frame.specs.declared.Message.{Message}
use Rattle.frame.specs.Coding.{bad_frame, decode_of}
use Rattle.frame.specs.Bits.{data_bits, bit}
use Rattle.poll_count.specs.declared.PollAnswer.{PollAnswer}

-- how many of the bits at the first n places are one
abbrev pub ones_in : (n x : ℕ) → ℕ
ones_in zero x = 0
ones_in (suc n) x = ones_in n x + bit n x

-- of the n places from i on, the first whose bit is one; the place behind them where none is
abbrev pub lowest_from : (i n x : ℕ) → ℕ
lowest_from i zero x = i
lowest_from i (suc n) x = cond (eqb (bit i x) 1) i (lowest_from (suc i) n x)

-- a refusal is its number and otherwise zeros
abbrev pub no_count : ℕ → PollAnswer
no_count k = record { refusal = k; ones = 0; lowest = 0 }

-- of eight data bits: 8 is the lowest of none
abbrev pub counted : ℕ → PollAnswer
counted x = record { refusal = 0; ones = ones_in data_bits x; lowest = lowest_from 0 data_bits x }

-- an IDY is counted, and every other frame refused, as is what is none
abbrev pub counted_as : Option Message → PollAnswer
counted_as (Some m) = cond (eqb m.kind idy) (counted m.offset) (no_count bad_frame)
counted_as None = no_count bad_frame

abbrev pub poll_count : ℕ → PollAnswer
poll_count f = counted_as (decode_of f)
