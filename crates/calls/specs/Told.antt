-- What C is told of an answer that may be a refusal: its numbers, or the refusal's and otherwise zeros.
use Rattle.std.specs.Prelude.{ℕ, Result, Ok, Err}
use Rattle.refusal.specs.Refusal.{number}
use Rattle.refusal.specs.declared.Refusal.{Refusal}
use Rattle.calls.specs.Calls.{no_take}
use Rattle.calls.specs.declared.TakeAnswer.{TakeAnswer}

abbrev pub take_told : Result ℕ Refusal → TakeAnswer
take_told (Ok frame) = record { frame = frame; refusal = 0 }
take_told (Err refusal) = no_take (number refusal)
