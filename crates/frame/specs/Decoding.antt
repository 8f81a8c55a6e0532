-- The one decoding of a frame (02, g): its kind, its offset in the kind, and C1; and the frame that these three make.
-- Every rule takes a frame's parts from here.
use Rattle.std.specs.Prelude.{ℕ, ◌+◌, ◌-◌, ◌*◌, ◌/◌, ◌%◌, ◌<◌, ◌≡◌, Bool, true, false, ◌||◌, cond, eqb}
use Rattle.frame.specs.Messages.{kind_at, number_of, first_of, codes_of}
use Rattle.frame.specs.declared.Kind.TheVariants as kind
use Rattle.frame.specs.declared.Message.{Message}

-- A message by its parts; kind 0 stands for no message
abbrev pub message : (kind offset c1 : ℕ) → Message
message k o c = record { kind = k; offset = o; c1 = c }

-- A frame is its control bits C3 C2 C1 times 256, plus its eight data bits: so much does C1 add to it
abbrev pub c1_adds : ℕ
c1_adds = 256

-- What is left of a frame by that are its data bits
abbrev pub data_in : ℕ → ℕ
data_in f = f % c1_adds

abbrev pub dab : ℕ
dab = number_of kind.Dab

abbrev pub end : ℕ
end = number_of kind.End

abbrev pub idy : ℕ
idy = number_of kind.Idy

-- The kinds that are told by C3 and C2 alone: they carry eight data bits, and C1 is free
unfoldable pub has_c1 : ℕ → Bool
has_c1 k = eqb k dab || (eqb k end || eqb k idy)

-- The offset of a frame of kind k: the data bits, or what it is above the kind's first code; zero for kind 0
unfoldable pub offset_in : ℕ → ℕ → ℕ
offset_in k f = cond (has_c1 k) (f % c1_adds) (cond (eqb k 0) 0 (f - first_of k))

-- Its C1: the frame's, and zero for a kind without one
unfoldable pub c1_in : ℕ → ℕ → ℕ
c1_in k f = cond (has_c1 k) (f / c1_adds % 2) 0

-- The decoding: the message table's kind, with the offset and C1 that a frame of that kind has
abbrev pub decoded : ℕ → Message
decoded f = message (kind_at f) (offset_in (kind_at f) f) (c1_in (kind_at f) f)

-- How many offsets kind k has: the data bits' values or its codes, none where it is not in the list
unfoldable pub offsets_of : ℕ → ℕ
offsets_of k = cond (has_c1 k) c1_adds (codes_of k)

-- How many values its C1 has
unfoldable pub c1s_of : ℕ → ℕ
c1s_of k = cond (has_c1 k) 2 1

-- The frame of a kind, an offset and a C1
abbrev pub frame_of : Message → ℕ
frame_of m = first_of m.kind + m.offset + c1_adds * m.c1

-- Frame f is of kind k, one with C1
pub record WithC1 (k f : ℕ) : Type 0 where
  pub kind : k ≡ kind_at f
  pub free : has_c1 k ≡ true

-- Frame f is of kind k, one of the list without C1
pub record Coded (k f : ℕ) : Type 0 where
  pub kind : k ≡ kind_at f
  pub listed : 0 < k
  pub without : has_c1 k ≡ false
