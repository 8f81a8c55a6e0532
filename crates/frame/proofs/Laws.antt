-- The laws of the codes, each from the order of the message table: a kind's codes are where its row says, and no other
-- row has them. Those of a kind with C1 start at a multiple of 512, so that data bits and C1 place a frame among them.
use Prim.Native.Nat.{ℕ, ◌+◌, ◌-◌, ◌*◌, ◌/◌, ◌%◌, ◌≤◌, ◌<◌}
use mathlib.Core.Path.{◌≡◌, refl, sym, ap, ◌∙◌}
use mathlib.Core.Bool.{Bool, true, false, cond, ◌&&◌, ◌||◌}
use mathlib.Core.Logic.{◌⊎◌, inl, inr, ⊎_elim}
use native.Mathlib.Omega.{arith}
use native.Mathlib.Decide.{dec_lt}
use lib.Dec.{eqb, ltb}
use borrow.Author.Tests.{lt-ltb, ltb-true, eqb-true, ne_eqb}
use Rattle.std.specs.Prelude.{Option, Some, None}
use Rattle.frame.specs.Messages.{frames, kinds, messages, kind_at, first_in, codes_in, first_of, codes_of}
use Rattle.frame.specs.Decoding.{message, dab, end, idy, has_c1, offset_in, c1_in, decoded, offsets_of}
use Rattle.frame.specs.Decoding.{c1s_of, frame_of}
use Rattle.frame.specs.Coding.{decode_of, in_list, encode_of}
use Rattle.frame.specs.Laws.{DecodeEncode, EncodeDecode, KindZero}
use Rattle.frame.specs.declared.Message.{Message}
use Rattle.frame.proofs.Rows.{within_kind, coded, ranged, no_kind}

never : {A : Type 0} → false ≡ true → A
never e = let z : ◌≡◌ {A = ℕ} 0 1 = cc in absurd (omega arith)

-- ---- a kind with C1, and one without

pub record Free (k : ℕ) : Type 0 where
  pub listed : 0 < k
  pub first : first_of k % 512 ≡ 0
  pub codes : codes_of k ≡ 512

pub free : (k : ℕ) → has_c1 k ≡ true → Free k
unfolding has_c1 messages first_in first_of codes_in codes_of
free k t = go (eqb k dab) (eqb k end) (eqb k idy) refl refl refl t
  where
    here : (j : ℕ) → eqb k j ≡ true → Free j → Free k
    here j e h = rw (eqb-true k j e) h

    go : (a b c : Bool) → eqb k dab ≡ a → eqb k end ≡ b → eqb k idy ≡ c → (a || (b || c)) ≡ true → Free k
    go true b c p q r t = here dab p (record { listed = omega arith; first = refl; codes = refl })
    go false true c p q r t = here end q (record { listed = omega arith; first = refl; codes = refl })
    go false false true p q r t = here idy r (record { listed = omega arith; first = refl; codes = refl })
    go false false false p q r t = never t

module _ (k : ℕ) (t : has_c1 k ≡ true) where
  pub offsets_free : offsets_of k ≡ 256
  unfolding offsets_of
  offsets_free = rw t

  pub c1s_free : c1s_of k ≡ 2
  unfolding c1s_of
  c1s_free = rw t

  pub offset_free : (f : ℕ) → offset_in k f ≡ f % 256
  unfolding offset_in
  offset_free f = rw t

  pub c1_free : (f : ℕ) → c1_in k f ≡ f / 256 % 2
  unfolding c1_in
  c1_free f = rw t

module _ (k : ℕ) (t : has_c1 k ≡ false) where
  pub offsets_coded : offsets_of k ≡ codes_of k
  unfolding offsets_of
  offsets_coded = rw t

  pub c1s_coded : c1s_of k ≡ 1
  unfolding c1s_of
  c1s_coded = rw t

  pub offset_coded : 0 < k → (f : ℕ) → offset_in k f ≡ f - first_of k
  unfolding offset_in
  offset_coded i f = rw (t, ne_eqb k 0 (λ e. omega arith))

  pub c1_coded : (f : ℕ) → c1_in k f ≡ 0
  unfolding c1_in
  c1_coded f = rw t

-- a kind past the list has no offsets
pub no_offsets : (k : ℕ) → kinds ≤ k → offsets_of k ≡ 0
no_offsets k i = split (has_c1 k) refl
  where
    split : (b : Bool) → has_c1 k ≡ b → offsets_of k ≡ 0
    split true t = let h = free k t in omega (arith, no_kind k i, h.codes)
    split false t = offsets_coded k t ∙ no_kind k i

-- ---- decoder and encoder undo each other

-- A frame of kind k that has offset o and C1 c
pub same : (k o c f : ℕ) → kind_at f ≡ k → offset_in k f ≡ o → c1_in k f ≡ c → decoded f ≡ message k o c
same k o c f p q r = rw (p, q, r)

-- An offset and a C1 that kind k has make a frame, of just these
pub record Placed (m : Message) : Type 0 where
  pub below : frame_of m < frames
  pub again : decoded (frame_of m) ≡ m

pub placed : (k o c : ℕ) → o < offsets_of k → c < c1s_of k → Placed (message k o c)
placed k o c i j = split (has_c1 k) refl
  where
    f : ℕ
    f = frame_of (message k o c)

    split : (b : Bool) → has_c1 k ≡ b → Placed (message k o c)
    split true t =
        let h = free k t in
        let p = coded k (o + 256 * c) (omega (arith, offsets_free k t, c1s_free k t, h.codes)) in
        let e : first_of k + (o + 256 * c) ≡ f = omega arith in
        record {
          below = omega (arith, p.0);
          again =
              same k o c f (rw e at p.1)
              (offset_free k t f ∙ omega (arith, h.first, offsets_free k t, c1s_free k t))
              (c1_free k t f ∙ omega (arith, h.first, offsets_free k t, c1s_free k t));
        }
    split false t =
        let z : c ≡ 0 = omega (arith, c1s_coded k t) in
        let p = coded k o (omega (arith, offsets_coded k t)) in
        let e : first_of k + o ≡ f = omega arith in
        record {
          below = omega (arith, p.0);
          again =
              same k o c f (rw e at p.1) (offset_coded k t p.2 f ∙ omega arith) (c1_coded k t f ∙ sym z);
        }

pub both_true : (a b : Bool) → (a && b) ≡ true → (a ≡ true) × (b ≡ true)
both_true true b h = (refl, h)
both_true false b h = never h

-- what in_list says
pub in_list_lem : (m : Message) → in_list m ≡ true → (m.offset < offsets_of m.kind) × (m.c1 < c1s_of m.kind)
in_list_lem m t =
    let p = both_true (ltb m.offset (offsets_of m.kind)) (ltb m.c1 (c1s_of m.kind)) t in
    (ltb-true _ _ p.0, ltb-true _ _ p.1)

abbrev is_frame : Option ℕ → Bool
is_frame (Some f) = true
is_frame None = false

pub encode_decode : EncodeDecode
unfolding encode_of decode_of
encode_decode m f e = split (in_list m) refl e
  where
    split : (b : Bool) → in_list m ≡ b → cond b (Some (frame_of m)) None ≡ Some f →
        decode_of f ≡ Some m
    split true t e =
        let q : frame_of m ≡ f = cc in
        let h = in_list_lem m t in
        let p = placed m.kind m.offset m.c1 h.0 h.1 in
        rw (← q, lt-ltb (frame_of m) frames p.below) (ap Some p.again)
    split false t e = let z : false ≡ true = ap is_frame e in never z

-- A frame of the list has an offset and a C1 of its kind, and they make it
pub record Has (f : ℕ) : Type 0 where
  pub offset : (decoded f).offset < offsets_of (kind_at f)
  pub c1 : (decoded f).c1 < c1s_of (kind_at f)
  pub frame : frame_of (decoded f) ≡ f

pub has : (f : ℕ) → 0 < kind_at f → Has f
has f i = split (has_c1 (kind_at f)) refl
  where
    k : ℕ
    k = kind_at f

    split : (b : Bool) → has_c1 k ≡ b → Has f
    split true t =
        let w = within_kind f k refl i in
        let h = free k t in
        let p = offset_free k t f in
        let q = c1_free k t f in
        record {
          offset = omega (arith, offsets_free k t);
          c1 = omega (arith, c1s_free k t);
          frame = omega (arith, h.first, h.codes);
        }
    split false t =
        let w = within_kind f k refl i in
        let p = offset_coded k t i f in
        let q = c1_coded k t f in
        record {
          offset = omega (arith, offsets_coded k t);
          c1 = omega (arith, c1s_coded k t);
          frame = omega arith;
        }

pub decode_encode : DecodeEncode
unfolding encode_of
decode_encode f i =
    let h = has f i in
    let k = kind_at f in
    rw (lt-ltb (offset_in k f) (offsets_of k) h.offset, lt-ltb (c1_in k f) (c1s_of k) h.c1, h.frame)

-- ---- data bytes and IDY, by the classes of frames

-- a data byte is a DAB or an END
pub data_kind : (f : ℕ) → f < 0x400 → (kind_at f ≡ dab) ⊎ (kind_at f ≡ end)
unfolding messages first_in first_of codes_in codes_of
data_kind f h = go (dec_lt f 0x200)
  where
    go : Dec (f < 0x200) → (kind_at f ≡ dab) ⊎ (kind_at f ≡ end)
    go (yes i) = inl (sym (ranged dab f (omega arith) (omega arith)))
    go (no i) = inr (sym (ranged end f (omega arith) (omega arith)))

pub idy_kind : (f : ℕ) → 0x600 ≤ f → f < frames → kind_at f ≡ idy
unfolding messages first_in first_of codes_in codes_of
idy_kind f l h = sym (ranged idy f (omega arith) (omega arith))

-- and what is a DAB or an END is a data byte
pub data_again : (f : ℕ) → (kind_at f ≡ dab) ⊎ (kind_at f ≡ end) → f < 0x400
unfolding messages first_in first_of codes_in codes_of
data_again f =
    ⊎_elim (λ e. omega (arith, (within_kind f dab e (omega arith)).1))
    (λ e. omega (arith, (within_kind f end e (omega arith)).1))

-- so each has a C1
pub data_free : (f : ℕ) → f < 0x400 → has_c1 (kind_at f) ≡ true
unfolding has_c1
data_free f h = ⊎_elim (λ e. ap has_c1 e) (λ e. ap has_c1 e) (data_kind f h)

pub idy_free : (f : ℕ) → 0x600 ≤ f → f < frames → has_c1 (kind_at f) ≡ true
unfolding has_c1
idy_free f l h = ap has_c1 (idy_kind f l h)

-- ---- kind 0

pub nought : (f : ℕ) → kind_at f ≡ 0 → decoded f ≡ message 0 0 0
unfolding offset_in c1_in has_c1
nought f e = rw e

pub kind_zero : KindZero
kind_zero f =
    record {
      none = λ e k h. let c = coded k (f - first_of k) (omega arith) in
          let g : first_of k + (f - first_of k) ≡ f = omega arith in
          let q : kind_at f ≡ k = rw g at c.1 in omega (arith, c.2);
      zero = λ n. let z : 0 < kind_at f → ⊥ = λ i. n (kind_at f) (within_kind f (kind_at f) refl i) in
          nought f (omega arith);
    }
