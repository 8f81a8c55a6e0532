-- Records tested one by one: those that are left, while all before them were found sound.
use Prim.Native.Nat.{ℕ, zero, suc, ◌+◌, ◌-◌, ◌/◌, ◌≤◌, ◌<◌}
use mathlib.Core.Path.{◌≡◌, refl, sym, ap, ◌∙◌}
use mathlib.Core.Bool.{Bool, true, false}
use mathlib.Core.List.{List, [], ◌∷◌}
use native.Mathlib.Numerals.{add-one}
use native.Mathlib.Omega.{arith}
use lib.ListN.{length, get_or, take, drop, length-drop, drop_of_length-le}
use lib.Seq.{drop-cons, take_all}
use Rattle.std.specs.Simd.{first_chunks}
use Rattle.record.specs.Record.{record_size}
use Rattle.record.specs.Sound.{sound_record}
use Rattle.area.specs.Sizes.{header_size, record_at}
use Rattle.area.specs.Parts.{parts, all}
use Rattle.area.specs.Loop.{count_in, records_in}

-- the records are the chunks behind the header
chunks : (w n : ℕ) (b : List ℕ) → parts w n b ≡ first_chunks w n b
unfolding parts
chunks w zero b = refl
chunks w (suc n) b = ap (λ (r : List (List ℕ)). take w b ∷ r) (chunks w n (drop w b))

module _ (each : List (List ℕ)) where
  -- the records from number i on are sound
  abbrev pub left : ℕ → Bool
  left i = all sound_record (drop i each)

  -- record i was found sound, or not
  pub passed : (i : ℕ) → i < length each → sound_record (get_or each i []) ≡ true → left i ≡ left (i + 1)
  unfolding all
  passed i h e = rw (drop-cons each i [] h, e, add-one)

  pub failed : (i : ℕ) → i < length each → sound_record (get_or each i []) ≡ false → left i ≡ false
  unfolding all
  failed i h e = rw (drop-cons each i [] h, e)

  -- none is left
  pub none_left : (i : ℕ) → length each ≤ i → left i ≡ true
  unfolding all
  none_left i h = rw (drop_of_length-le each {i = i} h)

-- the chunks of all that stands behind the header are the records
pub records_are : (a : List ℕ) (each : List (List ℕ)) → length a ≡ record_at (count_in a) →
    (let b = take (length a - header_size) (drop header_size a) in
    each ≡ first_chunks record_size (length b / record_size) b) → records_in a ≡ each
records_are a each long e =
    let r : take (length a - header_size) (drop header_size a) ≡ drop header_size a =
    take_all (length a - header_size) (drop header_size a) (omega (arith, length-drop header_size a)) in
    let n : length (drop header_size a) / record_size ≡ count_in a = simp length-drop (omega (arith, long)) in
    chunks record_size (count_in a) (drop header_size a) ∙ sym (rw (r, n) at e)
