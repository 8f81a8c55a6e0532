-- The kinds of frame for which an extended device has rules of its own; and what it is to go by a rule in a record,
-- whose bytes 20 and 21 the rule writes, and by a state beside it.
use Rattle.std.specs.Prelude.{ℕ, ◌≡◌, Bool, ◌||◌, List, eqb}
use Rattle.frame.specs.declared.Kind.TheVariants.{Lad, Tad, Sad, Aau, Aad, Aes, Aep}
use Rattle.frame.specs.Messages.{number_of}
use Rattle.device.specs.Sent.{Sent}
use Rattle.device.specs.declared.Device.{Device}
use Rattle.record.specs.Written.{IsRecord}
use Rattle.state.specs.State.{in_record, sent_from}
use Rattle.state.specs.declared.State.{State}
use Rattle.state.specs.declared.Passed.{Passed}

abbrev pub is_own : ℕ → Bool
is_own k =
    eqb k (number_of Lad) ||
    (eqb k (number_of Tad) ||
    (eqb k (number_of Sad) ||
    (eqb k (number_of Aau) ||
    (eqb k (number_of Aad) ||
    (eqb k (number_of Aes) ||
    eqb k (number_of Aep))))))

-- record c with the state s is the device d's
pub record Stands (d : Device) (s : State) (c : List ℕ) : Type 0 where
  pub is : in_record c s ≡ d
  pub bytes : IsRecord c

-- record c with what is passed on is what a device does
pub record Does (s : Sent) (p : Passed) (c : List ℕ) : Type 0 where
  pub is : sent_from c p ≡ s
  pub bytes : IsRecord c
