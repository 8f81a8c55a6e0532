-- The numbers of the reasons why a call is refused (01, The calls; 02, h), 0 for none.
use Rattle.std.specs.Prelude.{ℕ, Result, Ok, Err}
use Rattle.refusal.specs.declared.Refusal.{Refusal}

-- each reason's number
abbrev pub number : Refusal → ℕ
number Refusal.Shape = 1
number Refusal.Unsound = 2
number Refusal.NoDevice = 3
number Refusal.BadFrame = 4
number Refusal.Empty = 5
number Refusal.Full = 6
number Refusal.NoAbility = 7
number Refusal.TooLong = 8
number Refusal.Busy = 9
number Refusal.BadSave = 10

-- an answer, with its refusal as a number
abbrev pub numbered : {A : Type 0} → Result A Refusal → Result A ℕ
numbered (Ok answer) = Ok answer
numbered (Err refusal) = Err (number refusal)

-- the number that C is told of a call that answers its refusal alone
abbrev pub told : Result Unit Refusal → ℕ
told (Ok done) = 0
told (Err refusal) = number refusal
