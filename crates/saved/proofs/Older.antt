-- Old saves: the upgrade of a save in form is in form and of the edition now, and what it holds is what the save does,
-- with END chosen by each device with data.
use mathlib.Core.Path.{◌≡◌, refl, sym, ap, ◌∙◌}
use mathlib.Core.List.{List, [], ◌∷◌, ◌++◌, map, append-nil}
use mathlib.Core.Bool.{Bool, true, false, cond, ◌&&◌}
use Prim.Native.Nat.{ℕ, zero, suc, ◌+◌, ◌-◌, ◌≤◌}
use native.Mathlib.Omega.{arith}
use lib.Dec.{ltb}
use lib.ListN.{length, get_or, set, take, drop, length-map, length-set, get_or-append}
use lib.Seq.{length-take-le, get_or-take, get_or-drop, get_or-set_same, get_or-set_other, set-set, drop-set-add}
use lib.Seq.{take_at, drop_at}
use Rattle.device.specs.Device.{end_last}
use Rattle.device.specs.Change.{choice, loadlength, choosing}
use Rattle.device.specs.PowerOn.{bytes_from}
use Rattle.device.specs.declared.Device.{Device}
use Rattle.record.specs.Record.{record_size, device_of, record_of, zeros}
use Rattle.record.specs.Sound.{sound_record}
use Rattle.record.specs.Fits.{Bytes}
use Rattle.record.proofs.Both.{left, right, both_true}
use Rattle.record.proofs.Laws.{record_back, record_sound, read_good}
use Rattle.keeps.proofs.Keeps.{choice_good}
use Rattle.area.specs.Sizes.{header_size, link_size, record_at}
use Rattle.area.specs.Link.{sound_link}
use Rattle.area.specs.Parts.{parts, join, all}
use Rattle.area.proofs.Parts.{length_parts}
use Rattle.area.specs.Loop.{count_in, links_in, sound}
use Rattle.saved.specs.Saved.{header_kind, device_kind, head_size, head_of, recorded, body, edition_at}
use Rattle.saved.specs.Saved.{with_edition, without_edition, row_of, saved_header_size, saved_device_size}
use Rattle.saved.specs.Saved.{saved_link_size, saved_size}
use Rattle.saved.specs.Saved.{saved_count, edition, saved_header, saved_devices, saved_links, is_of, headed, contents}
use Rattle.saved.specs.Older.{asked_from, asked, asked_in, upgrade, asked_area}
use Rattle.saved.proofs.Wide.{Wide, map_wide, length_wide, cut_wide}
use Rattle.saved.proofs.Row.{Row, put_together, seconds_wide, made}
use Rattle.saved.proofs.Record.{recorded_is, recorded_body, recorded_are, recorded_bodies, edition_recorded}
use Rattle.saved.proofs.Record.{body_wide, body_edition}
use Rattle.saved.proofs.Formed.{count_held, row_held}
use Rattle.saved.proofs.Runs.{given}

-- ---- a device's bytes

pub asked_wide : (at : ℕ) (b : List ℕ) → length (asked_from at b) ≡ length b
asked_wide at b = go (ltb 0 (get_or b (at + loadlength) 0))
  where
    go : (t : Bool) → length (cond t (set b (at + choice) end_last) b) ≡ length b
    go true = length-set b (at + choice) end_last
    go false = refl

-- in its record they stand behind the head
body_asked : (r : List ℕ) → body (asked_in r) ≡ asked (body r)
body_asked r = rw (get_or-drop head_size r loadlength 0) (go (ltb 0 (get_or r (head_size + loadlength) 0)))
  where
    go : (t : Bool) → drop head_size (cond t (set r (head_size + choice) end_last) r) ≡
        cond t (set (drop head_size r) choice end_last) (drop head_size r)
    go true = drop-set-add head_size r choice end_last
    go false = refl

asked_recorded : (k : ℕ) (b : List ℕ) → asked_in (recorded k b) ≡ recorded k (asked b)
unfolding recorded head_of
asked_recorded k b = go (ltb 0 (get_or b loadlength 0))
  where
    go : (t : Bool) →
        cond t (head_of k (length b) ++ set b choice end_last) (head_of k (length b) ++ b) ≡
        head_of k (length (cond t (set b choice end_last) b)) ++ cond t (set b choice end_last) b
    go true = rw (length-set b choice end_last)
    go false = refl

-- with the choice they are those of a sound device still
choice_put : (d : Device) → set (record_of d) choice end_last ≡ record_of (choosing d end_last)
unfolding record_of
choice_put d = refl

asked_sound : (b : List ℕ) → length b ≡ record_size → Bytes b → sound_record b ≡ true → sound_record (asked b) ≡ true
asked_sound b l small s = go (ltb 0 (get_or b loadlength 0))
  where
    go : (t : Bool) → sound_record (cond t (set b choice end_last) b) ≡ true
    go true =
        let g = choice_good (device_of b) end_last (omega arith) (read_good b small s) in
        let e : set b choice end_last ≡ record_of (choosing (device_of b) end_last) =
        rw (record_back b l small) at (choice_put (device_of b)) in
        rw e (record_sound (choosing (device_of b) end_last) g.fits g.sound)
    go false = s

-- ---- lists of them

all_asked : (bs : List (List ℕ)) → Wide record_size bs → ((i : ℕ) → Bytes (get_or bs i [])) →
    all sound_record bs ≡ true → all sound_record (map asked bs) ≡ true
unfolding all Wide
all_asked [] w h t = refl
all_asked (b ∷ bs) w h t =
    both_true (asked_sound b w.0 (h zero) (left (sound_record b) (all sound_record bs) t))
    (all_asked bs w.1 (λ i. h (suc i)) (right (sound_record b) (all sound_record bs) t))

bodies_asked : (rs : List (List ℕ)) → map body (map asked_in rs) ≡ map asked (map body rs)
bodies_asked [] = refl
bodies_asked (r ∷ rs) = rw (body_asked r, bodies_asked rs)

records_asked : (k : ℕ) (bs : List (List ℕ)) → map asked_in (map (recorded k) bs) ≡ map (recorded k) (map asked bs)
records_asked k [] = refl
records_asked k (b ∷ bs) = rw (asked_recorded k b, records_asked k bs)

pub same_parts : (ps : List (List ℕ)) → map (λ p. p) ps ≡ ps
same_parts [] = refl
same_parts (p ∷ ps) = rw (same_parts ps)

-- ---- an area is sound by its parts

front : (n k m : ℕ) (b : List ℕ) → k + n ≤ m → bytes_from k n (take m b) ≡ bytes_from k n b
unfolding bytes_from
front zero k m b h = refl
front (suc n) k m b h = rw (get_or-take m b k 0 (omega arith), front n (suc k) m b (omega arith))

sound_parts : (n : ℕ) (a p : List ℕ) (ds ls : List (List ℕ)) → Row header_size record_size link_size n a p ds ls →
    count_in a ≡ n → sound a ≡ (zeros (bytes_from 1 (header_size - 1) p) && (all sound_record ds && all sound_link ls))
unfolding sound
sound_parts n a p ds ls r c =
    rw (c, r.seconds_are, r.thirds_are, ← front (header_size - 1) 1 header_size a (omega arith), r.first_is)

-- ---- the upgrade of a save of the length of its count

module _ (s : List ℕ) (long : length s ≡ saved_size (saved_count s)) where
  wide : length (saved_header s) ≡ saved_header_size
  wide = length-take-le saved_header_size s (omega arith)

  row_up : Row saved_header_size saved_device_size saved_link_size (saved_count s) (upgrade s) (with_edition (saved_header s))
      (map asked_in (saved_devices s)) (saved_links s)
  unfolding upgrade
  row_up =
      rw (same_parts (saved_links s)) at
      (made saved_header_size saved_device_size saved_link_size (saved_count s) s (long ∙ omega arith) saved_header_size
      saved_device_size saved_link_size with_edition asked_in (λ p. p) (λ p w. length-set p edition_at 1 ∙ w)
      (λ p w. asked_wide head_size p ∙ w) (λ p w. w))

  pub count_up : saved_count (upgrade s) ≡ saved_count s
  unfolding upgrade
  count_up =
      get_or-append (with_edition (saved_header s)) _ 0 head_size
      (rw (length-set (saved_header s) edition_at 1, wide) (omega arith))
      ∙ get_or-set_other (saved_header s) edition_at head_size 1 0 (λ e. omega arith)
      ∙ get_or-take saved_header_size s head_size 0 (omega arith)

  pub edition_up : edition (upgrade s) ≡ 1
  unfolding upgrade
  edition_up =
      get_or-append (with_edition (saved_header s)) _ 0 edition_at
      (rw (length-set (saved_header s) edition_at 1, wide) (omega arith))
      ∙ get_or-set_same (saved_header s) edition_at 1 0 (rw wide (omega arith))

  pub long_up : length (upgrade s) ≡ saved_size (saved_count (upgrade s))
  long_up = rw count_up (row_up.long ∙ omega arith)

  -- in form as the save is
  header_up : is_of header_kind (saved_header s) ≡ true → is_of header_kind (with_edition (saved_header s)) ≡ true
  header_up t =
      let e : recorded header_kind (body (saved_header s)) ≡ saved_header s =
      recorded_body header_kind (saved_header s) t (rw wide (omega arith)) in
      ap (is_of header_kind) (ap with_edition (sym e) ∙ edition_recorded header_kind (body (saved_header s)))
      ∙ recorded_is header_kind (set (body (saved_header s)) 1 1)

  devices_up : all (is_of device_kind) (saved_devices s) ≡ true →
      all (is_of device_kind) (map asked_in (saved_devices s)) ≡ true
  devices_up t =
      let w = seconds_wide saved_header_size saved_device_size saved_link_size (saved_count s) s (long ∙ omega arith) in
      let e : map (recorded device_kind) (map body (saved_devices s)) ≡ saved_devices s =
      recorded_bodies device_kind saved_device_size (saved_devices s) w (omega arith) t in
      ap (all (is_of device_kind)) (ap (map asked_in) (sym e) ∙ records_asked device_kind (map body (saved_devices s)))
      ∙ recorded_are device_kind (map asked (map body (saved_devices s)))

  pub heads_up : headed s ≡ true → headed (upgrade s) ≡ true
  unfolding headed
  heads_up t =
      rw (
        count_up,
        row_up.first_is,
        row_up.seconds_are,
        row_up.thirds_are,
        header_up (search left),
        devices_up (search (left, right)),
      )
      (search right)

  -- what it holds: the save's own parts, with END chosen
  row_asked : Row header_size record_size link_size (saved_count s) (contents (upgrade s))
      (without_edition (body (saved_header s))) (map asked (map body (saved_devices s))) (map body (saved_links s))
  row_asked =
      rw (
        count_up,
        row_up.first_is,
        row_up.seconds_are,
        row_up.thirds_are,
        body_edition (saved_header s),
        set-set (body (saved_header s)) 1 1 0,
        bodies_asked (saved_devices s),
      )
      at (row_held (upgrade s) long_up)

  contents_asked : contents (upgrade s) ≡
      row_of (without_edition (body (saved_header s))) (map asked (map body (saved_devices s))) (map body (saved_links s))
  contents_asked =
      sym (put_together header_size record_size link_size (saved_count s) (contents (upgrade s)) row_asked.long)
      ∙ rw (row_asked.first_is, row_asked.seconds_are, row_asked.thirds_are)

  pub links_up : links_in (contents (upgrade s)) ≡ links_in (contents s)
  links_up =
      rw (
        count_held (upgrade s) long_up,
        count_up,
        row_asked.thirds_are,
        count_held s long,
        (row_held s long).thirds_are,
      )

  pub contents_up : contents (upgrade s) ≡ asked_area (contents s)
  unfolding asked_area
  contents_up =
      let r = row_held s long in
      contents_asked ∙ rw (count_held s long, r.first_is, r.seconds_are, r.thirds_are)

  devices_wide : Wide record_size (map body (saved_devices s))
  devices_wide = map_wide body saved_device_size record_size (body_wide record_size) (saved_devices s)
      (seconds_wide saved_header_size saved_device_size saved_link_size (saved_count s) s (long ∙ omega arith))

  -- so it is where the devices' bytes stand in what the save holds
  pub asked_in_place : (n links : ℕ) → n ≡ saved_count s → links ≡ record_at n →
      given header_size links
      (join (map asked (parts record_size n (take (links - header_size) (drop header_size (contents s)))))) (contents s)
      ≡ contents (upgrade s)
  unfolding contents
  asked_in_place n links e f =
      let p = without_edition (body (saved_header s)) in
      let ds = map body (saved_devices s) in
      let ls = map body (saved_links s) in
      let pl : length p ≡ header_size = length-set (body (saved_header s)) 1 0
      ∙ body_wide header_size (saved_header s) wide in
      let dn : length ds ≡ n = rw (length-map, length_parts, e) in
      let dl : length (join ds) ≡ links - header_size = length_wide record_size ds devices_wide ∙ rw dn (omega arith) in
      let cut : parts record_size n (join ds) ≡ ds =
      rw (dn, append-nil) at (cut_wide record_size ds [] devices_wide) in
      rw (
        take_at p (join ds ++ join ls) header_size pl,
        drop_at p (join ds ++ join ls) header_size pl,
        take_at (join ds) (join ls) (links - header_size) dl,
        drop_at (join ds) (join ls) (links - header_size) dl,
        cut,
      )
      (sym contents_asked)

  pub sound_up : ((i : ℕ) → Bytes (get_or (map body (saved_devices s)) i [])) → sound (contents s) ≡ true →
      sound (contents (upgrade s)) ≡ true
  sound_up small t =
      let r = row_held s long in
      let p = without_edition (body (saved_header s)) in
      let ds = map body (saved_devices s) in
      let ls = map body (saved_links s) in
      let h = sound_parts (saved_count s) (contents s) p ds ls r (count_held s long) in
      let q : (zeros (bytes_from 1 (header_size - 1) p) && (all sound_record ds && all sound_link ls)) ≡ true = sym h ∙ t in
      let v = right (zeros (bytes_from 1 (header_size - 1) p)) (all sound_record ds && all sound_link ls) q in
      sound_parts (saved_count s) (contents (upgrade s)) p (map asked ds) ls row_asked
      (count_held (upgrade s) long_up ∙ count_up)
      ∙ both_true (left (zeros (bytes_from 1 (header_size - 1) p)) (all sound_record ds && all sound_link ls) q)
      (both_true (all_asked ds devices_wide small (left (all sound_record ds) (all sound_link ls) v))
      (right (all sound_record ds) (all sound_link ls) v))
