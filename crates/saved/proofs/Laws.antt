-- The laws of saved loops: the form is that of what was written, and what was written is read.
use mathlib.Core.Path.{◌≡◌, refl, sym, ap, ◌∙◌}
use mathlib.Core.List.{List, [], ◌∷◌, map}
use mathlib.Core.Bool.{Bool, true, false, cond, ◌&&◌}
use Prim.Native.Nat.{ℕ, zero, suc, ◌+◌, ◌<◌}
use native.Mathlib.Omega.{arith}
use lib.Dec.{eqb, ltb}
use lib.ListN.{length, get_or, set, take, drop}
use lib.Seq.{get_or-drop}
use borrow.Author.Tests.{eqb-true, eqb-false}
use Rattle.device.specs.Device.{end_last}
use Rattle.device.specs.Change.{loadlength, choice}
use Rattle.device.specs.PowerOn.{bytes_from}
use Rattle.record.specs.Record.{record_size, zeros}
use Rattle.record.specs.Fits.{Bytes}
use Rattle.record.proofs.Both.{left}
use Rattle.record.proofs.Bytes.{small_bytes, bytes_append}
use Rattle.area.specs.Sizes.{header_size, link_size, most_devices, record_at, area_size}
use Rattle.area.specs.Parts.{parts, join}
use Rattle.area.specs.Loop.{count_in, records_in, links_in, shaped, judge_of, judge_with, sound, shape, unsound}
use Rattle.area.proofs.Parts.{bytes_part}
use Rattle.area.proofs.Each.{each_set, each_bytes}
use Rattle.area.proofs.Areas.{judge_zero, is_shaped}
use Rattle.calls.specs.Outcome.{After, after}
use Rattle.saved.specs.Saved.{header_kind, device_kind, link_kind, head_size, head_of, recorded, body, edition_at}
use Rattle.saved.specs.Saved.{with_edition, without_edition, saved, edition}
use Rattle.saved.specs.Saved.{saved_header_size, saved_device_size, saved_link_size, saved_links_at, saved_size}
use Rattle.saved.specs.Saved.{saved_count, saved_header, saved_devices, saved_links, formed, contents}
use Rattle.saved.specs.Older.{saved_before, old, asked_in, upgrade, opened, sound_save}
use Rattle.saved.specs.Calls.{bad_save, save_of, save_with, open_with, open_of}
use Rattle.saved.specs.Laws.{SavedLong, OpenAfterSave, OpenOver, OneForm, OldForm, SaveOpened, SavedOnce}
use Rattle.saved.specs.Laws.{OldOpens, OpenedLinks, SavedBytes, OpenedBytes}
use Rattle.saved.proofs.Formed.{Formed, is_formed, held_shaped, saved_held, saved_long}
use Rattle.saved.proofs.Formed.{count_saved, edition_saved, saved_formed, contents_saved, count_before}
use Rattle.saved.proofs.Formed.{edition_before, before_formed, before_long, zero_before, contents_before}
use Rattle.saved.proofs.Older.{same_parts, count_up, edition_up, long_up, heads_up, links_up, contents_up}
use Rattle.saved.proofs.Older.{sound_up}
use Rattle.saved.proofs.Tests.{save_done, open_new, open_old}

pub saved_is_long : SavedLong
saved_is_long a h = (omega arith, saved_long a (is_shaped a (judge_zero a h).0))

-- what a save that was done says
pub save_is : (a out s : List ℕ) → save_of a out ≡ after 0 s → (judge_of a ≡ 0) × (saved a ≡ s)
unfolding save_with judge_with
save_is a out s h = go (shaped a) (eqb (length out) (saved_size (count_in a))) (sound a) h
  where
    refused : (k : ℕ) → ◌≡◌ {A = After ℕ} (after k out) (after 0 s) → k ≡ 0
    refused k e = ap (λ (o : After ℕ). o.answer) e

    go : (f l t : Bool) →
        ◌≡◌ {A = After ℕ} (cond (f && l) (cond t (after 0 (saved a)) (after unsound out)) (after shape out))
        (after 0 s) →
        (◌≡◌ {A = ℕ} (cond f (cond t 0 unsound) shape) 0) × (saved a ≡ s)
    go true true true e = (refl, ap (λ (o : After ℕ). o.area) e)
    go true true false e = let z : ⊥ = omega (arith, refused unsound e) in absurd z
    go true false t e = let z : ⊥ = omega (arith, refused shape e) in absurd z
    go false l t e = let z : ⊥ = omega (arith, refused shape e) in absurd z

-- a sound area's own byte 1 is zero
own_zero : (a : List ℕ) → sound a ≡ true → get_or a 1 0 ≡ 0
unfolding sound bytes_from zeros
own_zero a h = eqb-true (get_or a 1 0) 0 (search left)

pub open_saved : (a lent : List ℕ) → judge_of a ≡ 0 → length lent ≡ length a → open_of lent (saved a) ≡ after 0 a
open_saved a lent h l =
    let j = judge_zero a h in
    let s = is_shaped a j.0 in
    let c = contents_saved a s (own_zero a j.1) in
    let n : edition (saved a) ≡ 0 → ⊥ = λ e. omega (arith, edition_saved a s) in
    open_new most_devices lent (saved a) (saved_formed a s) (rw (count_saved a s) (l ∙ s.long)) (rw c j.1) n
    ∙ ap (after 0) c

-- which is not an old save
pub saved_new : (a : List ℕ) → judge_of a ≡ 0 → old (saved a) ≡ false
saved_new a h = rw (edition_saved a (is_shaped a (judge_zero a h).0))

pub open_after_save : OpenAfterSave
open_after_save a out lent s h l = let d = save_is a out s h in rw (← d.1) (open_saved a lent d.0 l)

pub open_over : OpenOver
open_over a b h k e =
    let s = is_shaped a (judge_zero a h).0 in
    let t = is_shaped b (judge_zero b k).0 in
    open_saved a b h (t.long ∙ rw (← e) (sym s.long))

-- what an opening that was done says
record Opened (a s : List ℕ) : Type 0 where
  form : Formed most_devices s
  fine : sound (contents s) ≡ true
  is : opened s ≡ a

opening : (a lent s : List ℕ) → open_of lent s ≡ after 0 a → Opened a s
unfolding open_with sound_save
opening a lent s h =
    go (formed most_devices s) (eqb (length lent) (area_size (saved_count s))) (sound_save s) refl refl h
  where
    refused : (k : ℕ) → ◌≡◌ {A = After ℕ} (after k lent) (after 0 a) → k ≡ 0
    refused k e = ap (λ (o : After ℕ). o.answer) e

    go : (f l t : Bool) → formed most_devices s ≡ f → sound_save s ≡ t →
        ◌≡◌ {A = After ℕ} (cond f (cond l (cond t (after 0 (opened s)) (after unsound lent)) (after shape lent))
        (after bad_save lent)) (after 0 a) → Opened a s
    go true true true p q e =
        record {
          form = is_formed most_devices s p;
          fine = left (sound (contents s)) _ q;
          is = ap (λ (o : After ℕ). o.area) e;
        }
    go true true false p q e = let z : ⊥ = omega (arith, refused unsound e) in absurd z
    go true false t p q e = let z : ⊥ = omega (arith, refused shape e) in absurd z
    go false l t p q e = let z : ⊥ = omega (arith, refused bad_save e) in absurd z

pub open_is : (a lent s : List ℕ) → open_of lent s ≡ after 0 a → opened s ≡ a
open_is a lent s h = (opening a lent s h).is

zero_judge : (a : List ℕ) → shaped a ≡ true → sound a ≡ true → judge_of a ≡ 0
unfolding judge_with
zero_judge a h k = rw (h, k)

-- ---- bytes

bytes_dropped : (k : ℕ) (b : List ℕ) → Bytes b → Bytes (drop k b)
bytes_dropped k b h i = rw get_or-drop (h (k + i))

bytes_parts : (w n : ℕ) (b : List ℕ) → Bytes b → (i : ℕ) → Bytes (get_or (parts w n b) i [])
unfolding parts
bytes_parts w zero b h i = small_bytes [] tt
bytes_parts w (suc n) b h zero = bytes_part 0 w b h
bytes_parts w (suc n) b h (suc i) = bytes_parts w n (drop w b) (bytes_dropped w b h) i

bytes_recorded : (k : ℕ) (b : List ℕ) → Bytes b → Bytes (recorded k b)
unfolding recorded head_of
bytes_recorded k b h = bytes_append (head_of k (length b)) b (small_bytes (head_of k (length b)) (omega arith)) h

bytes_run : (f : List ℕ → List ℕ) → ((p : List ℕ) → Bytes p → Bytes (f p)) → (w n : ℕ) (b : List ℕ) → Bytes b →
    Bytes (join (map f (parts w n b)))
bytes_run f t w n b h = each_bytes Bytes [] f t (parts w n b) (bytes_parts w n b h)

-- the bodies of a save's devices
bytes_bodies : (s : List ℕ) → Bytes s → (i : ℕ) → Bytes (get_or (map body (saved_devices s)) i [])
bytes_bodies s h =
    go (saved_devices s) (bytes_parts saved_device_size (saved_count s) _ (bytes_dropped saved_header_size s h))
  where
    go : (ps : List (List ℕ)) → ((i : ℕ) → Bytes (get_or ps i [])) → (i : ℕ) → Bytes (get_or (map body ps) i [])
    go [] t i = t i
    go (p ∷ ps) t zero = bytes_dropped head_size p (t zero)
    go (p ∷ ps) t (suc i) = go ps (λ j. t (suc j)) i

-- ---- the one form

-- a save in form and of the edition now, with sound contents, is their saved form
new_form : (s : List ℕ) → Formed most_devices s → edition s ≡ 1 → sound (contents s) ≡ true →
    (judge_of (contents s) ≡ 0) × (s ≡ saved (contents s))
new_form s f m t = (zero_judge (contents s) (held_shaped s f) t, sym (saved_held s f.long f.heads m))

pub one_form : OneForm
unfolding opened
one_form a lent s h n =
    let o = opening a lent s h in
    let f = o.form in
    let z : edition s ≡ 0 → ⊥ = eqb-false (edition s) 0 n in
    let e : contents s ≡ a = rw n at o.is in
    rw (← e) (new_form s f (omega (arith, f.written)) o.fine)

pub old_form : OldForm
unfolding opened
old_form a lent s small h n =
    let o = opening a lent s h in
    let f = o.form in
    let e : contents (upgrade s) ≡ a = rw n at o.is in
    let c = count_up s f.long in
    let g : Formed most_devices (upgrade s) = record {
      some = rw c f.some;
      few = rw c f.few;
      long = long_up s f.long;
      heads = heads_up s f.long f.heads;
      written = rw (edition_up s f.long) (omega arith);
    } in
    rw (← e)
    (new_form (upgrade s) g (edition_up s f.long) (sound_up s f.long (bytes_bodies s small) o.fine))

pub opened_links : OpenedLinks
unfolding opened
opened_links a lent s h =
    let o = opening a lent s h in
    rw (← o.is) (go (old s) o.form.long)
  where
    go : (t : Bool) → length s ≡ saved_size (saved_count s) →
        links_in (contents (cond t (upgrade s) s)) ≡ links_in (contents s)
    go true l = links_up s l
    go false l = refl

pub save_opened : SaveOpened
save_opened a lent s out small h l = go (old s) refl
  where
    again : (x : List ℕ) → (judge_of a ≡ 0) × (x ≡ saved a) → length x ≡ length s → save_of a out ≡ after 0 x
    again x o w =
        let j = judge_zero a o.0 in
        let k = saved_long a (is_shaped a j.0) in
        save_done a out j.0 (l ∙ sym w ∙ ap length o.1 ∙ k) j.1 ∙ ap (after 0) (sym o.1)

    go : (t : Bool) → old s ≡ t → save_of a out ≡ after 0 (cond t (upgrade s) s)
    go true e =
        let f = (opening a lent s h).form in
        again (upgrade s) (old_form a lent s small h e)
        (long_up s f.long ∙ ap saved_size (count_up s f.long) ∙ sym f.long)
    go false e = again s (one_form a lent s h e) refl

pub saved_once : SavedOnce
saved_once a b h k e =
    let i = judge_zero a h in
    let j = judge_zero b k in
    sym (contents_saved a (is_shaped a i.0) (own_zero a i.1)) ∙ ap contents e
    ∙ contents_saved b (is_shaped b j.0) (own_zero b j.1)

-- ---- what was written before

pub old_opens : OldOpens
old_opens a lent h t l =
    let j = judge_zero a h in
    let s = is_shaped a j.0 in
    let z = own_zero a j.1 in
    let n = edition_before a s z in
    let c = contents_before a s z in
    open_old most_devices lent (saved_before a) (before_formed a s z)
    (rw (count_before a s z) (l ∙ s.long)) (rw c j.1) n
    ∙ rw (zero_before a s z t, contents_up (saved_before a) (before_long a s z), c)

-- ---- bytes

bytes_set : (b : List ℕ) (i x : ℕ) → x < 256 → Bytes b → Bytes (set b i x)
bytes_set b i x l h = each_set (λ y. y < 256) 0 b i x l h

pub saved_bytes : SavedBytes
unfolding saved
saved_bytes a h =
    bytes_append (with_edition (recorded header_kind (take header_size a))) _
    (bytes_set (recorded header_kind (take header_size a)) edition_at 1 (omega arith)
    (bytes_recorded header_kind _ (bytes_part 0 header_size a h)))
    (bytes_append (join (map (recorded device_kind) (records_in a))) _
    (bytes_run (recorded device_kind) (bytes_recorded device_kind) record_size (count_in a) _
    (bytes_dropped header_size a h))
    (bytes_run (recorded link_kind) (bytes_recorded link_kind) link_size (suc (count_in a)) _
    (bytes_dropped (record_at (count_in a)) a h)))

contents_bytes : (s : List ℕ) → Bytes s → Bytes (contents s)
unfolding contents
contents_bytes s h =
    let run = bytes_run body (bytes_dropped head_size) in
    bytes_append (without_edition (body (saved_header s))) _
    (bytes_set (body (saved_header s)) 1 0 (omega arith)
    (bytes_dropped head_size (saved_header s) (bytes_part 0 saved_header_size s h)))
    (bytes_append (join (map body (saved_devices s))) _
    (run saved_device_size (saved_count s) _ (bytes_dropped saved_header_size s h))
    (run saved_link_size (suc (saved_count s)) _ (bytes_dropped (saved_links_at (saved_count s)) s h)))

bytes_asked : (r : List ℕ) → Bytes r → Bytes (asked_in r)
bytes_asked r h = go (ltb 0 (get_or r (head_size + loadlength) 0))
  where
    go : (t : Bool) → Bytes (cond t (set r (head_size + choice) end_last) r)
    go true = bytes_set r (head_size + choice) end_last (omega arith) h
    go false = h

upgrade_bytes : (s : List ℕ) → Bytes s → Bytes (upgrade s)
unfolding upgrade
upgrade_bytes s h =
    bytes_append (with_edition (saved_header s)) _
    (bytes_set (saved_header s) edition_at 1 (omega arith) (bytes_part 0 saved_header_size s h))
    (bytes_append (join (map asked_in (saved_devices s))) _
    (bytes_run asked_in bytes_asked saved_device_size (saved_count s) _ (bytes_dropped saved_header_size s h))
    (rw (same_parts (saved_links s)) at
    (bytes_run (λ p. p) (λ p t. t) saved_link_size (suc (saved_count s)) (drop (saved_links_at (saved_count s)) s)
    (bytes_dropped (saved_links_at (saved_count s)) s h))))

pub opened_bytes : OpenedBytes
unfolding opened
opened_bytes s h = go (old s)
  where
    go : (t : Bool) → Bytes (contents (cond t (upgrade s) s))
    go true = contents_bytes (upgrade s) (upgrade_bytes s h)
    go false = contents_bytes s h
