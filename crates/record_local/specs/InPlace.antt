-- What it is to make a local call in a record: the device's answer, and its record afterwards. A refused call leaves
-- the record as it was.
use Rattle.std.specs.Prelude.{ℕ, ◌≡◌, cond, List, eqb}
use Rattle.record.specs.Record.{record_of}
use Rattle.record_local.specs.Local.{Called}

-- where the device's call leaves c, the call in its record b answers r and leaves x
pub record InPlace (b : List ℕ) (c : Called) (r : ℕ) (x : List ℕ) : Type 0 where
  pub answers : r ≡ c.refusal
  pub leaves : x ≡ cond (eqb c.refusal 0) (record_of c.device) b
