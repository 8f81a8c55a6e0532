-- The codes are equal by two computed tests, one of every byte and one of every kind: a kind with a row has as many
-- codes as bytes, 400 above them, and a frame is as far behind the one as its byte is behind the other.
use Prim.Native.Nat.{ℕ, zero, suc, ◌+◌, ◌/◌, ◌%◌, ◌^◌, ◌≤◌, ◌<◌}
use mathlib.Core.Path.{◌≡◌, refl, sym, ◌∙◌}
use mathlib.Core.List.{List, [], ◌∷◌}
use mathlib.Core.Bool.{Bool, true, false, not, cond, ◌&&◌, ◌||◌}
use native.Mathlib.Omega.{arith}
use native.Mathlib.Decide.{dec_lt}
use lib.Dec.{eqb, ltb, leb}
use borrow.Author.Tests.{eqb-true, ltb-true, leb-true, lt-ltb, le-ltb, le-leb, lt-leb, not-true}
use Rattle.frame.specs.Messages.{kinds, Row, messages, within, lookup, kind_at, first_in, codes_in, first_of}
use Rattle.frame.specs.Messages.{codes_of, number_of}
use Rattle.frame.specs.Decoding.{message, has_c1, offset_in, c1_in, decoded, data_in}
use Rattle.frame.specs.declared.Kind.TheVariants as kind
use Rattle.frame.proofs.Rows.{within_kind, no_kind, no_frame as no-kind-past}
use Rattle.frame.proofs.Laws.{both_true, offset_coded}
use Rattle.frame.proofs.Table.{values, same}
use Rattle.bus.specs.Codes.{equal_codes, has_command, command_of, has_byte, byte_of, rfc}
use Rattle.bus.specs.Laws.{EqualCodes, NoneElse}

pub false_true : {A : Type 0} → false ≡ true → A
false_true e = let z : ◌≡◌ {A = ℕ} 0 1 = cc in absurd (omega arith)

-- ---- a test of all numbers below one, computed

each : (p : ℕ → Bool) (n k : ℕ) → values (λ i. cond (p i) 1 0) 0 n ≡ values (λ i. 1) 0 n → k < n → p k ≡ true
each p n k e i = go (p k) (same (λ i. cond (p i) 1 0) (λ i. 1) n k e i)
  where
    go : (t : Bool) → ◌≡◌ {A = ℕ} (cond t 1 0) 1 → t ≡ true
    go true e = refl
    go false e = absurd (omega arith)

agree : Bool → Bool → Bool
agree true b = b
agree false b = not b

agreed : (a b : Bool) → agree a b ≡ true → a ≡ b
unfolding agree
agreed true b e = sym e
agreed false true e = e
agreed false false e = refl

-- ---- every byte

-- the test that the code makes: of the six below the addresses by their bits
tested : ℕ → Bool
tested b = cond (ltb b 0x20) (eqb (0x320112 / 2 ^ b % 2) 1) (leb b 0x7e)

right : ℕ → Bool
right b =
    agree (has_command b) (tested b) && (agree (has_command b) (has_byte (command_of b)) &&
    (not (has_command b) || (eqb (kind_at (command_of b)) (lookup equal_codes b) && eqb (byte_of (command_of b)) b)))

all_right : values (λ b. cond (right b) 1 0) 0 256 ≡ values (λ b. 1) 0 256
unfolding right agree tested has_command has_byte byte_of equal_codes lookup within kind_at messages first_in codes_in first_of
    codes_of offset_in has_c1
all_right = refl

-- what it says of a byte
record Right (b : ℕ) : Type 0 where
  is_tested : has_command b ≡ tested b
  alike : has_command b ≡ has_byte (command_of b)
  matched : has_command b ≡ true → (kind_at (command_of b) ≡ lookup equal_codes b) × (byte_of (command_of b) ≡ b)

at_byte : (b : ℕ) → b < 256 → Right b
unfolding right
at_byte b i =
    let p = both_true (agree (has_command b) (tested b)) _ (each right 256 b all_right i) in
    let q = both_true (agree (has_command b) (has_byte (command_of b))) _ p.1 in
    record {
      is_tested = agreed (has_command b) (tested b) p.0;
      alike = agreed (has_command b) (has_byte (command_of b)) q.0;
      matched = λ h.
          let m = both_true (eqb (kind_at (command_of b)) (lookup equal_codes b)) (eqb (byte_of (command_of b)) b)
          (rw h at q.1) in
          (eqb-true _ _ m.0, eqb-true _ _ m.1);
    }

-- so the code's two tests are right, each where it is made
pub below_addresses : (b : ℕ) → b < 0x20 → eqb (0x320112 / 2 ^ b % 2) 1 ≡ has_command b
unfolding tested
below_addresses b h = rw ((at_byte b (omega arith)).is_tested, lt-ltb b 0x20 h)

pub among_addresses : (b : ℕ) → 0x20 ≤ b → b < 256 → leb b 0x7e ≡ has_command b
unfolding tested
among_addresses b h i = rw ((at_byte b i).is_tested, le-ltb b 0x20 h)

-- a byte past the rows has no command

ends_below : ℕ → List Row → Bool
ends_below n [] = true
ends_below n (r ∷ rs) = ltb r.last n && ends_below n rs

none_past : (n : ℕ) (rs : List Row) (b : ℕ) → ends_below n rs ≡ true → n ≤ b → lookup rs b ≡ 0
unfolding lookup within ends_below
none_past n [] b t h = refl
none_past n (r ∷ rs) b t h =
    let p = both_true (ltb r.last n) (ends_below n rs) t in
    let l = ltb-true r.last n p.0 in
    rw (lt-leb b r.last (omega arith), none_past n rs b p.1 h) (go (leb r.first b))
  where
    go : (s : Bool) → cond (s && false) r.kind 0 ≡ 0
    go true = refl
    go false = refl

pub low : (b : ℕ) → has_command b ≡ true → b < 256
unfolding has_command equal_codes ends_below
low b h = go (dec_lt b 256)
  where
    go : Dec (b < 256) → b < 256
    go (yes i) = i
    go (no i) = false_true (sym (rw (none_past 256 equal_codes b refl (omega arith)) refl) ∙ h)

-- ---- every kind

row_right : ℕ → Bool
row_right k =
    leb (codes_in equal_codes k) 0 ||
    (eqb (first_of k) (command_of (first_in equal_codes k)) && (eqb (codes_of k) (codes_in equal_codes k) &&
    (not (has_c1 k) && leb (first_in equal_codes k + codes_in equal_codes k) 128)))

rows_right : values (λ k. cond (row_right k) 1 0) 0 kinds ≡ values (λ k. 1) 0 kinds
unfolding row_right equal_codes messages first_in codes_in first_of codes_of has_c1
rows_right = refl

-- the row of a kind that has bytes
record Rowed (k : ℕ) : Type 0 where
  first : first_of k ≡ command_of (first_in equal_codes k)
  codes : codes_of k ≡ codes_in equal_codes k
  without : has_c1 k ≡ false
  short : first_in equal_codes k + codes_in equal_codes k ≤ 128

rowed : (k : ℕ) → k < kinds → 0 < codes_in equal_codes k → Rowed k
unfolding row_right
rowed k i p =
    let t = rw (lt-leb (codes_in equal_codes k) 0 p) at (each row_right kinds k rows_right i) in
    let q = both_true (eqb (first_of k) (command_of (first_in equal_codes k))) _ t in
    let r = both_true (eqb (codes_of k) (codes_in equal_codes k)) _ q.1 in
    let s = both_true (not (has_c1 k)) _ r.1 in
    record {
      first = eqb-true _ _ q.0;
      codes = eqb-true _ _ r.0;
      without = not-true (has_c1 k) s.0;
      short = leb-true _ _ s.1;
    }

-- kind 0 has no row
some_kind : (k : ℕ) → 0 < codes_in equal_codes k → 0 < k
unfolding equal_codes codes_in
some_kind zero h = h
some_kind (suc k) h = omega arith

-- a frame with a byte, and its byte
record Matched (f : ℕ) : Type 0 where
  is : command_of (byte_of f) ≡ f
  low : byte_of f < 128

matched : (f : ℕ) → has_byte f ≡ true → Matched f
unfolding has_byte byte_of
matched f h =
    let k = kind_at f in
    let p = ltb-true 0 (codes_in equal_codes k) h in
    let i = some_kind k p in
    let w = within_kind f k refl i in
    let n : (kinds ≤ k → ⊥) = λ m. omega (arith, no_kind k m, w.0, w.1) in
    let r = rowed k (omega arith) p in
    let o = offset_coded k r.without i f in
    record {
      is = omega (arith, o, r.first, r.codes, w.0, w.1);
      low = omega (arith, o, r.first, r.codes, r.short, w.0, w.1);
    }

-- ---- the laws

of_rfc : (decoded rfc ≡ message (number_of kind.Rfc) 0 0) × (has_byte rfc ≡ false)
unfolding rfc has_byte equal_codes lookup within kind_at messages first_in codes_in first_of codes_of offset_in c1_in has_c1
of_rfc = (refl, refl)

pub equal_codes_lem : EqualCodes
unfolding equal_codes
equal_codes_lem =
    record {
      eleven = refl;
      of_byte = λ b h. let r = at_byte b (low b h) in ((r.matched h).0, sym r.alike ∙ h, (r.matched h).1);
      of_frame = λ f h. let m = matched f h in
          ((at_byte (byte_of f) (omega (arith, m.low))).alike ∙ rw m.is h, m.is);
      of_rfc = of_rfc;
    }

pub none_else : NoneElse
unfolding has_command has_byte equal_codes lookup within kind_at messages codes_in
none_else =
    record {
      no_command = (refl, refl, refl, refl);
      ppd_and_ear = (refl, refl);
      no_byte = λ b i h. sym (at_byte b i).alike ∙ h;
      no_frame = λ f h. rw (no-kind-past f h);
    }

-- ---- the code's test of a frame: a command whose data bits are a byte with a command

pub has_byte_is : (f : ℕ) → ((leb 0x400 f && ltb f 0x500) && has_command (data_in f)) ≡ has_byte f
has_byte_is f = go (dec_lt f 0x400) (dec_lt f 0x500)
  where
    out : (0x400 ≤ f → f < 0x500 → ⊥) → has_byte f ≡ false
    out h = split (has_byte f) refl
      where
        split : (t : Bool) → has_byte f ≡ t → t ≡ false
        split true e =
            let m = matched f e in absurd (h (omega (arith, m.is, m.low)) (omega (arith, m.is, m.low)))
        split false e = refl

    go : Dec (f < 0x400) → Dec (f < 0x500) → ((leb 0x400 f && ltb f 0x500) && has_command (data_in f)) ≡ has_byte f
    go (yes i) d = rw (lt-leb 0x400 f i, out (λ a b. omega arith))
    go (no i) (yes j) =
        let e : command_of (data_in f) ≡ f = omega arith in
        rw (le-leb 0x400 f (omega arith), lt-ltb f 0x500 j) ((at_byte (data_in f) (omega arith)).alike ∙ rw e)
    go (no i) (no j) = rw (le-leb 0x400 f (omega arith), le-ltb f 0x500 (omega arith), out (λ a b. omega arith))

-- and where it has one, those are its byte
pub data_is : (f : ℕ) → has_byte f ≡ true → data_in f ≡ byte_of f
data_is f h = let m = matched f h in omega (arith, m.is, m.low)
