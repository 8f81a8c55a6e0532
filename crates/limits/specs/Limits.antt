-- What two limits on the devices of a loop have in common, and how a reader by the smaller one takes what is written by
-- the larger (02, j): statements, proved in proofs/Limits.antt.
use Rattle.std.specs.Prelude.{ℕ, ◌*◌, ◌≤◌, ◌<◌, ◌≡◌, List, length}
use Rattle.area.specs.Sizes.{item_size, area_size}
use Rattle.area.specs.Loop.{Loop, count_in, judge_with, judge_of}
use Rattle.calls.specs.Outcome.{Outcome, after, call_with}
use Rattle.calls.specs.SetUp.{set_up_with}
use Rattle.saved.specs.Saved.{saved, saved_size, saved_count}
use Rattle.saved.specs.Calls.{bad_save, save_with, open_with}

-- a lent area of at most so many devices: by its byte 0, or by its length, whatever its bytes
pub data FewIn (limit : ℕ) (a : List ℕ) : Type 0 where
  by_count : count_in a ≤ limit → FewIn limit a
  by_length : length a ≤ area_size limit → FewIn limit a

-- an area and items for at most so many, by the length of either; no item has fewer bytes than 12
pub data FewItems (limit : ℕ) (a items : List ℕ) : Type 0 where
  by_area : length a ≤ area_size limit → FewItems limit a items
  by_items : length items ≤ item_size * limit → FewItems limit a items

-- a save of at most so many: by its count, or by its length, whatever its bytes
pub data FewSaved (limit : ℕ) (s : List ℕ) : Type 0 where
  by_count : saved_count s ≤ limit → FewSaved limit s
  by_length : length s ≤ saved_size limit → FewSaved limit s

-- Two limits agree on what has at most as many devices as the smaller,
pub record Agree (smaller larger : ℕ) : Type 1 where
  -- in an area's refusal as such,
  pub judged : (a : List ℕ) → FewIn smaller a → judge_with smaller a ≡ judge_with larger a
  -- and so in what any call on the area answers and leaves, whatever it does with the loop in it;
  pub called : (A : Type 0) (deny : ℕ → A) (call : Loop → Outcome A) (a : List ℕ) → FewIn smaller a →
      call_with smaller deny call a ≡ call_with larger deny call a
  -- in a set-up,
  pub set_up_lem : (a items : List ℕ) → FewItems smaller a items → set_up_with smaller a items ≡ set_up_with larger a items
  -- in a save,
  pub saving : (a out : List ℕ) → FewIn smaller a → save_with smaller a out ≡ save_with larger a out
  -- and in an opening, whatever area is lent.
  pub opening : (lent s : List ℕ) → FewSaved smaller s → open_with smaller lent s ≡ open_with larger lent s

abbrev pub LimitsAgree : Type 1
LimitsAgree = (smaller larger : ℕ) → smaller ≤ larger → Agree smaller larger

-- A reader refuses what has more devices than its limit with 10, and the lent area stays as it was:
pub record RefusesMore (limit : ℕ) : Type 0 where
  -- any bytes with such a count,
  pub by_count : (lent s : List ℕ) → limit < saved_count s → open_with limit lent s ≡ after bad_save lent
  -- and so the saved form of any loop of so many.
  pub saved_form : (a lent : List ℕ) → judge_of a ≡ 0 → limit < count_in a →
      open_with limit lent (saved a) ≡ after bad_save lent

abbrev pub MoreRefused : Type 0
MoreRefused = (limit : ℕ) → RefusesMore limit
