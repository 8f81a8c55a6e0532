-- The laws of the codes, as statements: the table is in order, the decoder and the encoder undo each other, kind 0 is
-- what is left. proofs/Rows.antt proves the first three, Every.antt OneKind, and Laws.antt the others.
use Rattle.std.specs.Prelude.{ℕ, suc, ◌+◌, ◌≤◌, ◌<◌, ◌≡◌, List, [], ◌∷◌, Some}
use Rattle.frame.specs.Messages.{frames, kinds, Row, messages, kind_at, number_of, first_of, codes_of}
use Rattle.frame.specs.Decoding.{message, decoded}
use Rattle.frame.specs.Coding.{decode_of, encode_of}
use Rattle.frame.specs.declared.Kind.{Kind}
use Rattle.frame.specs.declared.Message.{Message}

-- Rows from kind n and code a on: numbered one by one, none without a code, each after the codes of the one before
abbrev pub InOrder : ℕ → ℕ → List Row → Type 0
InOrder n a [] = (n ≡ kinds) × (a ≤ frames)
InOrder n a (r ∷ rs) =
    (r.kind ≡ n) × (a ≤ r.first) × (r.first ≤ r.last) × InOrder (suc n) (suc r.last) rs

-- The rows are kinds 1 to 42 in order, their codes are disjoint and are frames
abbrev pub TableInOrder : Type 0
TableInOrder = InOrder 1 0 messages

-- The kinds with codes are 1 to 42
abbrev pub Listed : Type 0
Listed = (k : ℕ) → (0 < k → k < kinds → 0 < codes_of k) × (0 < codes_of k → (0 < k) × (k < kinds))

-- Frame f is one of kind k's codes
abbrev pub CodeOf : ℕ → ℕ → Type 0
CodeOf k f = (first_of k ≤ f) × (f < first_of k + codes_of k)

-- A frame of a kind is one of its codes
abbrev pub WithinKind : Type 0
WithinKind = (f k : ℕ) → kind_at f ≡ k → 0 < k → CodeOf k f

-- Decoding then encoding gives back every frame that is not of kind 0
abbrev pub DecodeEncode : Type 0
DecodeEncode = (f : ℕ) → 0 < (decoded f).kind → encode_of (decoded f) ≡ Some f

-- Encoding then decoding gives back kind, offset and C1 wherever the encoder accepts them
abbrev pub EncodeDecode : Type 0
EncodeDecode = (m : Message) (f : ℕ) → encode_of m ≡ Some f → decode_of f ≡ Some m

-- Kind 0 is exactly the frames that no kind has, and its offset and C1 are zero
pub record NoneHas (f : ℕ) : Type 0 where
  pub none : (decoded f).kind ≡ 0 → (k : ℕ) → CodeOf k f → ⊥
  pub zero : ((k : ℕ) → CodeOf k f → ⊥) → decoded f ≡ message 0 0 0

abbrev pub KindZero : Type 0
KindZero = (f : ℕ) → NoneHas f

-- A kind's number belongs to one kind alone
abbrev pub OneKind : Type 0
OneKind = (j k : Kind) → number_of j ≡ number_of k → j ≡ k
