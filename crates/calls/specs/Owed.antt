-- The hops still owed, as a call (02, k): for every frame in a link the devices ahead of it, summed.
use Rattle.std.specs.Prelude.{ℕ, List}
use Rattle.area.specs.Loop.{Loop}
use Rattle.order.specs.Owed.{owed}
use Rattle.calls.specs.Outcome.{call_of, reads}
use Rattle.calls.specs.declared.OwedAnswer.{OwedAnswer}

abbrev pub no_owed : ℕ → OwedAnswer
no_owed k = record { hops = 0; refusal = k }

abbrev pub owed_in : Loop → OwedAnswer
owed_in l = record { hops = owed l.links; refusal = 0 }

-- the area is lent to read alone, so the answer is all that there is
abbrev pub owed_of : List ℕ → OwedAnswer
owed_of a = (call_of no_owed (reads owed_in) a).answer
