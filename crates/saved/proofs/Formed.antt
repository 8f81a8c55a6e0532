-- What the form says of a save, and what it says of the saved form of an area and of the one written before.
use mathlib.Core.Path.{◌≡◌, refl, sym, ap, ◌∙◌}
use mathlib.Core.List.{List, [], ◌∷◌, map}
use mathlib.Core.Bool.{Bool, true, ◌&&◌}
use Prim.Native.Nat.{ℕ, zero, suc, ◌+◌, ◌-◌, ◌*◌, ◌≤◌, ◌<◌}
use native.Mathlib.Omega.{arith}
use lib.ListN.{length, get_or, set, take, drop, length-set, get_or-append}
use lib.Seq.{length-take-le, get_or-take, get_or-drop, get_or-set_same, get_or-set_other, set-get_or}
use borrow.Author.Tests.{leb-true, eqb-true, le-leb, eq-eqb}
use Rattle.device.specs.PowerOn.{bytes_from}
use Rattle.record.specs.Record.{record_size, zeros}
use Rattle.record.specs.Sound.{sound_record}
use Rattle.record.proofs.Both.{left, right}
use Rattle.area.specs.Sizes.{header_size, link_size, most_devices, area_size}
use Rattle.area.specs.Parts.{all}
use Rattle.area.specs.Link.{sound_link}
use Rattle.area.specs.Loop.{count_in, records_in, links_in, shaped, shaped_with, Shaped, sound}
use Rattle.saved.specs.Saved.{header_kind, device_kind, link_kind, head_size, head_of, recorded, body, edition_at}
use Rattle.saved.specs.Saved.{without_edition, row_of, saved, edition}
use Rattle.saved.specs.Saved.{saved_header_size, saved_device_size, saved_link_size, saved_size, saved_count}
use Rattle.saved.specs.Saved.{saved_header, saved_devices, saved_links, formed, contents}
use Rattle.saved.specs.Saved.{headed}
use Rattle.saved.specs.Older.{saved_before, zero_choice, zero_choice_in}
use Rattle.saved.specs.Inner.{sound_device_in, sound_link_in}
use Rattle.saved.proofs.Row.{Row, put_together, seconds_wide, thirds_wide, made}
use Rattle.saved.proofs.Record.{recorded_wide, body_wide, body_recorded, recorded_is, edition_recorded}
use Rattle.saved.proofs.Record.{without_again, with_again}
use Rattle.saved.proofs.Record.{bodies_recorded, recorded_are, recorded_bodies}

all_map : (p : List ℕ → Bool) (f : List ℕ → List ℕ) (xs : List (List ℕ)) → all p (map f xs) ≡ all (λ x. p (f x)) xs
unfolding all
all_map p f [] = refl
all_map p f (x ∷ xs) = ap (λ (t : Bool). p (f x) && t) (all_map p f xs)

-- ---- the row of an area of its length, with b for its header

module _ (a : List ℕ) (h : Shaped a) (b : List ℕ) (w : length b ≡ header_size) (c : get_or b 0 0 ≡ count_in a) where
  abbrev row : List ℕ
  row =
      row_of (recorded header_kind b) (map (recorded device_kind) (records_in a)) (map (recorded link_kind) (links_in a))

  row_parts : Row saved_header_size saved_device_size saved_link_size (count_in a) row (recorded header_kind b)
      (map (recorded device_kind) (records_in a)) (map (recorded link_kind) (links_in a))
  row_parts =
      made header_size record_size link_size (count_in a) a (h.long ∙ omega arith) saved_header_size saved_device_size
      saved_link_size (λ p. recorded header_kind b) (recorded device_kind) (recorded link_kind)
      (λ p l. recorded_wide header_kind header_size b w) (recorded_wide device_kind record_size)
      (recorded_wide link_kind link_size)

  row_long : length row ≡ saved_size (count_in a)
  row_long = row_parts.long ∙ omega arith

  row_count : saved_count row ≡ count_in a
  unfolding recorded head_of
  row_count = get_or-append b _ 0 0 (omega arith) ∙ c

  row_edition : edition row ≡ get_or b 1 0
  unfolding recorded head_of
  row_edition = get_or-append b _ 0 1 (omega arith)

  row_formed : get_or b 1 0 ≤ 1 → formed most_devices row ≡ true
  unfolding formed headed
  row_formed l =
      rw (
        row_count,
        row_long,
        le-leb _ _ h.some,
        le-leb _ _ h.few,
        eq-eqb (saved_size (count_in a)) (saved_size (count_in a)) refl,
        row_parts.first_is,
        row_parts.seconds_are,
        row_parts.thirds_are,
        recorded_is,
        recorded_are device_kind,
        recorded_are link_kind,
        row_edition,
        le-leb _ _ l,
      )

  row_contents : without_edition b ≡ take header_size a → contents row ≡ a
  unfolding contents
  row_contents e =
      rw (
        row_count,
        row_parts.first_is,
        row_parts.seconds_are,
        row_parts.thirds_are,
        body_recorded,
        bodies_recorded device_kind,
        bodies_recorded link_kind,
        e,
      )
      (put_together header_size record_size link_size (count_in a) a (h.long ∙ omega arith))

-- ---- the saved form, and the one that was written before

module _ (a : List ℕ) (h : Shaped a) where
  own : length (take header_size a) ≡ header_size
  own = length-take-le header_size a (omega (arith, h.long))

  own_count : get_or (take header_size a) 0 0 ≡ count_in a
  own_count = get_or-take header_size a 0 0 (omega arith)

  own_zero : get_or a 1 0 ≡ 0 → get_or (take header_size a) 1 0 ≡ 0
  own_zero z = get_or-take header_size a 1 0 (omega arith) ∙ z

  abbrev b : List ℕ
  b = set (take header_size a) 1 1

  wide : length b ≡ header_size
  wide = length-set (take header_size a) 1 1 ∙ own

  count : get_or b 0 0 ≡ count_in a
  count = get_or-set_other (take header_size a) 1 0 1 0 (λ e. omega arith) ∙ own_count

  mark : get_or b 1 0 ≡ 1
  mark = get_or-set_same (take header_size a) 1 1 0 (rw own (omega arith))

  saved_row : saved a ≡ row a h b wide count
  unfolding saved
  saved_row = rw (edition_recorded header_kind (take header_size a))

  pub saved_long : length (saved a) ≡ saved_size (count_in a)
  saved_long = rw saved_row (row_long a h b wide count)

  pub count_saved : saved_count (saved a) ≡ count_in a
  count_saved = rw saved_row (row_count a h b wide count)

  pub edition_saved : edition (saved a) ≡ 1
  edition_saved = rw saved_row (row_edition a h b wide count ∙ mark)

  pub saved_formed : formed most_devices (saved a) ≡ true
  saved_formed = rw saved_row (row_formed a h b wide count (omega (arith, mark)))

  pub contents_saved : get_or a 1 0 ≡ 0 → contents (saved a) ≡ a
  contents_saved z =
      rw saved_row (row_contents a h b wide count (without_again (take header_size a) (own_zero z)))

  module _ (z : get_or a 1 0 ≡ 0) where
    pub count_before : saved_count (saved_before a) ≡ count_in a
    unfolding saved_before
    count_before = row_count a h (take header_size a) own own_count

    pub edition_before : edition (saved_before a) ≡ 0
    unfolding saved_before
    edition_before = row_edition a h (take header_size a) own own_count ∙ own_zero z

    pub before_formed : formed most_devices (saved_before a) ≡ true
    unfolding saved_before
    before_formed = row_formed a h (take header_size a) own own_count (omega (arith, own_zero z))

    pub before_long : length (saved_before a) ≡ saved_size (saved_count (saved_before a))
    unfolding saved_before
    before_long = rw (row_count a h (take header_size a) own own_count) (row_long a h (take header_size a) own own_count)

    pub zero_before : all zero_choice (records_in a) ≡ true →
        all zero_choice_in (saved_devices (saved_before a)) ≡ true
    unfolding saved_before
    zero_before t =
        let o = own_count in
        rw (row_count a h (take header_size a) own o, (row_parts a h (take header_size a) own o).seconds_are)
        (sym (all_map zero_choice body (map (recorded device_kind) (records_in a)))
        ∙ ap (all zero_choice) (bodies_recorded device_kind (records_in a)) ∙ t)

    pub contents_before : contents (saved_before a) ≡ a
    unfolding saved_before
    contents_before =
        row_contents a h (take header_size a) own own_count
        (ap (λ (x : ℕ). set (take header_size a) 1 x) (sym (own_zero z)) ∙ set-get_or (take header_size a) 1 0)

-- ---- a save of the length of its count

module _ (s : List ℕ) (long : length s ≡ saved_size (saved_count s)) where
  header_wide : length (body (saved_header s)) ≡ header_size
  header_wide = body_wide header_size (saved_header s) (length-take-le saved_header_size s (omega arith))

  front : (i : ℕ) → i < header_size → get_or (contents s) i 0 ≡ get_or (without_edition (body (saved_header s))) i 0
  unfolding contents
  front i h =
      let w : length (without_edition (body (saved_header s))) ≡ header_size =
      length-set (body (saved_header s)) 1 0 ∙ header_wide in
      get_or-append (without_edition (body (saved_header s))) _ 0 i (omega arith)

  -- the header's bytes stand in the first body, but for the edition
  header_byte : (i : ℕ) → i < header_size → (i ≡ 1 → ⊥) → get_or (contents s) i 0 ≡ get_or s (head_size + i) 0
  header_byte i h n =
      front i h ∙ get_or-set_other (body (saved_header s)) 1 i 0 0 n ∙ get_or-drop head_size (saved_header s) i 0
      ∙ get_or-take saved_header_size s (head_size + i) 0 (omega arith)

  header_bytes : (n k : ℕ) → 1 < k → k + n ≤ header_size →
      bytes_from k n (contents s) ≡ bytes_from k n (drop head_size s)
  unfolding bytes_from
  header_bytes zero k l h = refl
  header_bytes (suc n) k l h =
      rw (header_byte k (omega arith) (λ e. omega arith), get_or-drop, header_bytes n (suc k) (omega arith) (omega arith))

  own_held : get_or (contents s) 1 0 ≡ 0
  own_held = front 1 (omega arith) ∙ get_or-set_same (body (saved_header s)) 1 0 0 (rw header_wide (omega arith))

  header_zeros : zeros (bytes_from 2 6 (drop head_size s)) ≡ zeros (bytes_from 1 (header_size - 1) (contents s))
  unfolding bytes_from zeros
  header_zeros = rw own_held (ap zeros (sym (header_bytes 6 2 (omega arith) (omega arith))))

  pub count_held : count_in (contents s) ≡ saved_count s
  count_held = header_byte 0 (omega arith) (λ e. omega arith)

  pub row_held : Row header_size record_size link_size (saved_count s) (contents s) (without_edition (body (saved_header s)))
      (map body (saved_devices s)) (map body (saved_links s))
  unfolding contents
  row_held =
      made saved_header_size saved_device_size saved_link_size (saved_count s) s (long ∙ omega arith) header_size record_size
      link_size (λ p. without_edition (body p)) body body (λ p w. length-set (body p) 1 0 ∙ body_wide header_size p w)
      (body_wide record_size) (body_wide link_size)

  pub contents_long : length (contents s) ≡ area_size (saved_count s)
  contents_long = row_held.long ∙ omega arith

  -- its contents are sound where its bodies are, in their places
  pub sound_held : (zeros (bytes_from 2 6 (drop head_size s)) &&
      (all sound_device_in (saved_devices s) && all sound_link_in (saved_links s))) ≡ sound (contents s)
  unfolding sound
  sound_held =
      rw (
        count_held,
        row_held.seconds_are,
        row_held.thirds_are,
        header_zeros,
        all_map sound_record body,
        all_map sound_link body,
      )

  -- with its records' lengths and kinds, and the edition now, it is the saved form of its contents
  pub saved_held : headed s ≡ true → edition s ≡ 1 → saved (contents s) ≡ s
  unfolding saved headed
  saved_held t m =
      let n = saved_count s in
      let l : length s ≡ saved_header_size + saved_device_size * n + saved_link_size * suc n = long ∙ omega arith in
      rw (
        count_held,
        row_held.first_is,
        row_held.seconds_are,
        row_held.thirds_are,
        with_again header_kind (saved_header s) (search left)
            (rw (length-take-le saved_header_size s (omega arith)) (omega arith))
            (get_or-take saved_header_size s edition_at 0 (omega arith) ∙ m),
        recorded_bodies device_kind saved_device_size (saved_devices s)
            (seconds_wide saved_header_size saved_device_size saved_link_size n s l) (omega arith) (search (left, right)),
        recorded_bodies link_kind saved_link_size (saved_links s)
            (thirds_wide saved_header_size saved_device_size saved_link_size n s l) (omega arith) (search (left, right)),
      )
      (put_together saved_header_size saved_device_size saved_link_size n s l)

-- ---- a save in form

pub record Formed (limit : ℕ) (s : List ℕ) : Type 0 where
  pub some : 1 ≤ saved_count s
  pub few : saved_count s ≤ limit
  pub long : length s ≡ saved_size (saved_count s)
  pub heads : headed s ≡ true
  pub written : edition s ≤ 1

pub is_formed : (limit : ℕ) (s : List ℕ) → formed limit s ≡ true → Formed limit s
unfolding formed headed
is_formed limit s h =
    record {
      some = leb-true 1 (saved_count s) (search left);
      few = leb-true (saved_count s) limit (search (left, right));
      long = eqb-true (length s) (saved_size (saved_count s)) (search (left, right));
      heads = search (left, right);
      written = leb-true (edition s) 1 (search right);
    }

pub held_shaped : (s : List ℕ) → Formed most_devices s → shaped (contents s) ≡ true
unfolding shaped_with
held_shaped s f =
    rw (
      count_held s f.long,
      contents_long s f.long,
      le-leb _ _ f.some,
      le-leb _ _ f.few,
      eq-eqb (area_size (saved_count s)) (area_size (saved_count s)) refl,
    )
