-- The set-up of line 1: refused but for a number of devices that a loop can have, and otherwise the same whatever the
-- area held before.
use Prim.Native.Nat.{ℕ, ◌+◌, ◌*◌, ◌≤◌, ◌<◌}
use mathlib.Core.Logic.{◌⊎◌, inl, inr, ⊎_elim}
use mathlib.Core.Path.{◌≡◌, refl, ap, ◌∙◌}
use mathlib.Core.List.{List, [], ◌∷◌, map}
use mathlib.Core.Bool.{Bool, true, false, ◌&&◌, cond}
use native.Mathlib.Omega.{arith}
use native.Mathlib.Decide.{dec_lt}
use lib.Dec.{eqb}
use lib.ListN.{length, replicate, length-map, length-replicate}
use borrow.Author.Tests.{eq-eqb, eqb-true, le-leb}
use Rattle.device.specs.PowerOn.{power_on}
use Rattle.record.specs.Fits.{Bytes}
use Rattle.record.specs.Sound.{allowed}
use Rattle.record.proofs.Both.{left, right}
use Rattle.record.proofs.Bytes.{small_bytes, zeros_small, bytes_append}
use Rattle.area.specs.Sizes.{most_devices, item_size, area_size}
use Rattle.area.specs.Parts.{all, join}
use Rattle.area.specs.Loop.{shape, unsound, area_of}
use Rattle.area.proofs.Parts.{length_join, length_parts}
use Rattle.calls.specs.Outcome.{after}
use Rattle.calls.specs.SetUp.{devices_for, is_items, item_width, items_of, items_fit, powered_on, set_up_of, set_up_with}
use Rattle.calls.proofs.Powered.{width_one, width_all, set_up_sound, items_fit_lem as what-fits}
use Rattle.text.specs.Words.{loop_word, begins}
use Rattle.text.specs.Digits.{number_at}
use Rattle.script.specs.Script.{word_size, devices_in, groups_in, group_size, group_right, loop_right, item_of, items_in}
use Rattle.script.proofs.Scripts.{group_digits}
use Rattle.round.proofs.Held.{Area}

-- there is an item for each device
pub items_long : (line : List ℕ) → length (items_in line) ≡ item_size * devices_in line
items_long line = length_join item_of item_size (λ g. refl) (groups_in line) ∙
    ap (λ k. item_size * k) (length_parts group_size (devices_in line) _)

-- what lies between two multiples of 12 is none
no_part : (k n x : ℕ) → 12 * k < x → x < 12 * k + 12 → 12 * n ≡ x → ⊥
no_part k n x l h e = go (dec_lt k n)
  where
    go : Dec (k < n) → ⊥
    go (yes m) = omega arith
    go (no m) = omega arith

-- the wrong number of devices
pub set_up_refused : (a items : List ℕ) (n : ℕ) → length items ≡ item_size * n → ((1 ≤ n) → (n ≤ most_devices) → ⊥) →
    (most_devices < n → area_size most_devices ≤ length a) → set_up_of a items ≡ after shape a
unfolding set_up_with
set_up_refused a items n e no-fit long = go (items_fit most_devices (devices_for (length a)) a items) refl
  where
    -- there are none, or more than the area, which is as long as any, has items for
    wrong : (m : ℕ) → 1 ≤ m → m ≤ most_devices → length a ≡ area_size m →
        (length items ≡ 12 * m) ⊎ ((length items ≡ 13 * m) ⊎ (length items ≡ 14 * m)) → ⊥
    wrong m s f l w = over (dec_lt most_devices n)
      where
        over : Dec (most_devices < n) → ⊥
        over (yes h) =
            let k = long h in
            let q : m ≡ most_devices = omega arith in
            ⊎_elim (λ i. omega arith)
            (⊎_elim (λ i. no_part 33 n 403 (omega arith) (omega arith) (omega arith))
            (λ i. no_part 36 n 434 (omega arith) (omega arith) (omega arith))) w
        over (no h) = no-fit (⊎_elim (λ i. omega arith) (⊎_elim (λ i. omega arith) (λ i. omega arith)) w) (omega arith)

    go : (t : Bool) → items_fit most_devices (devices_for (length a)) a items ≡ t →
        cond t
        (cond (all allowed (items_of (devices_for (length a)) items))
        (after 0 (area_of (powered_on (devices_for (length a)) items))) (after unsound a))
        (after shape a) ≡ after shape a
    go false p = refl
    go true p =
        let m = devices_for (length a) in
        let f = what-fits most_devices m a items p in
        let l = width_all (length items) m f.items in
        absurd (wrong m f.some f.few f.area
        (⊎_elim (λ w. inl (rw w at l)) (⊎_elim (λ w. inr (inl (rw w at l))) (λ w. inr (inr (rw w at l))))
        (width_one (length items) m)))

-- the right number
pub items_fit_lem : (a items : List ℕ) (n : ℕ) → 1 ≤ n → n ≤ most_devices → length a ≡ area_size n →
    length items ≡ item_size * n → items_fit most_devices n a items ≡ true
unfolding items_fit is_items
items_fit_lem a items n s f l e =
    rw (le-leb 1 n s, le-leb n most_devices f, eq-eqb (length a) (area_size n) l, eq-eqb (length items) (item_size * n) e)

pub set_up_done : (a items : List ℕ) (n : ℕ) → 1 ≤ n → n ≤ most_devices → length a ≡ area_size n →
    length items ≡ item_size * n →
    set_up_of a items ≡ cond (all allowed (items_of n items)) (after 0 (area_of (powered_on n items))) (after unsound a)
unfolding set_up_with
set_up_done a items n s f l e =
    let m : devices_for (length a) ≡ n = omega arith in rw (m, items_fit_lem a items n s f l e)

-- what it leaves is a sound loop's area
pub powered : (items : List ℕ) (n : ℕ) → 1 ≤ n → n ≤ most_devices → length items ≡ item_size * n → Bytes items →
    all allowed (items_of n items) ≡ true → Area n (area_of (powered_on n items))
powered items n s f e b h =
    let a : List ℕ = replicate (area_size n) 0 in
    record {
      loop = powered_on n items;
      sound = set_up_sound most_devices n a items b (items_fit_lem a items n s f (length-replicate (area_size n) 0) e) h;
      is = refl;
      count = length-map (items_of n items) power_on ∙ length_parts (item_width (length items) n) n items;
    }

-- ---- the items are bytes

two_digits : (g : List ℕ) → group_right g ≡ true → (number_at 1 2 g < 256) × (number_at 3 2 g < 256)
two_digits g h = let d = group_digits g h in (omega arith, omega arith)

item_bytes : (g : List ℕ) → group_right g ≡ true → Bytes (item_of g)
item_bytes g h = small_bytes (item_of g) (omega (arith, two_digits g h))

groups_bytes : (gs : List (List ℕ)) → all group_right gs ≡ true → Bytes (join (map item_of gs))
unfolding all join
groups_bytes [] h = zeros_small 0
groups_bytes (g ∷ gs) h =
    bytes_append (item_of g) (join (map item_of gs)) (item_bytes g (left (group_right g) (all group_right gs) h))
    (groups_bytes gs (right (group_right g) (all group_right gs) h))

-- ---- what a right line 1 says

pub record Line1 (line : List ℕ) : Type 0 where
  pub long : length line ≡ word_size + group_size * devices_in line
  pub groups : all group_right (groups_in line) ≡ true
  pub bytes : Bytes (items_in line)

pub line1 : (line : List ℕ) → loop_right line ≡ true → Line1 line
unfolding loop_right
line1 line h =
    let w = begins loop_word line in
    let l = eqb (length line) (word_size + group_size * devices_in line) in
    let g = all group_right (groups_in line) in
    let hg = right w (l && g) h in
    record {
      long = eqb-true (length line) (word_size + group_size * devices_in line) (left l g hg);
      groups = right l g hg;
      bytes = groups_bytes (groups_in line) (right l g hg);
    }
