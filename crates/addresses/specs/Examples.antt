-- What the conditions of the theorem are for: with a device without ability 32, with k + n = 32, or with a device that
-- takes AAD again, two devices can come to one address, and both become talkers; or one is left without an address.
-- Computed and proved in proofs/Examples.antt.
use Rattle.std.specs.Prelude.{ℕ, ◌+◌, ◌<◌, ◌≡◌, true, ◌&&◌, List, [], ◌∷◌, ◌++◌, map, T, eqb, ltb, replicate}
use Rattle.frame.specs.declared.Kind.TheVariants.{Aad}
use Rattle.frame.specs.Messages.{number_of}
use Rattle.frame.specs.Decoding.{decoded}
use Rattle.device.specs.Choose.{choose}
use Rattle.device.specs.Device.{auto_address, no_address, addressed, has, talks}
use Rattle.device.specs.Change.{placed}
use Rattle.device.specs.Reply.{sends}
use Rattle.device.specs.Take.{takes}
use Rattle.device.specs.ExtendedSentences.{Simple}
use Rattle.device.specs.Sent.{Sent}
use Rattle.device.specs.declared.Device.{Device}
use Rattle.area.specs.Sizes.{area_size}
use Rattle.area.specs.Loop.{loop_of}
use Rattle.demands.specs.Calls.{Byte, put, hop, take, set_up, pil}
use Rattle.demands.specs.Histories.{Step, area_left, frames_taken}
use Rattle.teeth.specs.Example.{byte, zero, calls}
use Rattle.addresses.specs.Addresses.{aau, aad, tad, Conditions}

-- ---- Two devices on bytes

-- a set-up item: abilities, fixed address, and zeros
abbrev pub item : (abilities fixed : ℕ) → T (ltb abilities 256) → T (ltb fixed 256) → List Byte
item abilities fixed s t = byte abilities s ∷ byte fixed t ∷ replicate 10 zero

abbrev pub loop_with : List Byte → List Byte → List ℕ
loop_with x y = (pil (set_up (x ++ y)) (replicate (area_size 2) 0)).area

-- each of these frames right round (`calls` makes each call a step)
abbrev pub rounds : List ℕ → List Step
rounds [] = []
rounds (f ∷ fs) = calls (put f ∷ hop 0 ∷ hop 1 ∷ take ∷ []) ++ rounds fs

-- what stands in the devices then
abbrev pub addresses : List ℕ → List ℕ
addresses a = map (λ (d : Device). d.address) (loop_of a).devices

abbrev pub talkers : List ℕ → List ℕ
talkers a = map (λ (d : Device). d.talker) (loop_of a).devices

-- AAU, AAD k and TAD t go right round: the addresses after AAD, the frame that AAD came out as, the talkers after TAD
pub record Shows (a : List ℕ) (k t : ℕ) (given : List ℕ) (out : ℕ) (talking : List ℕ) : Type 0 where
  pub addresses_are : addresses (area_left a (rounds (aau ∷ aad k ∷ []))) ≡ given
  pub out_is : frames_taken a (rounds (aau ∷ aad k ∷ [])) ≡ aau ∷ out ∷ []
  pub talkers_are : talkers (area_left a (rounds (aau ∷ aad k ∷ tad t ∷ []))) ≡ talking

-- meters: send data and auto address, with no fixed address or with 30; send data alone, with the 1 of a switch
abbrev pub meter : List Byte
meter = item 0x22 31 tt tt

abbrev pub meter30 : List Byte
meter30 = item 0x22 30 tt tt

abbrev pub switched1 : List Byte
switched1 = item 0x02 1 tt tt

pub record OnBytes : Type 0 where
  -- These two meet the conditions of the theorem,
  pub conditions : Conditions 29 (loop_with meter meter30) (rounds (aau ∷ [])) (rounds (aad 29 ∷ []))
  -- and have what it promises: 29 and 30, IAA comes out, and TAD 30 makes one of them the talker.
  pub as_promised : Shows (loop_with meter meter30) 29 30 (29 ∷ 30 ∷ []) (aad no_address) (0 ∷ 1 ∷ [])
  -- The first takes 1 and sends AAD 2. The other, without ability 32, leaves that alone and keeps the 1 of its switch,
  -- which AAD cannot know of: TAD 1 makes both talkers.
  pub without_ability : Shows (loop_with meter switched1) 1 1 (1 ∷ 1 ∷ []) (aad 2) (1 ∷ 1 ∷ [])
  -- k + n is 32, as with AAD 1 in a loop of 31: the first takes the last address, 30, and sends IAA, which gives none.
  -- The other is left with its fixed address. Where that is 31 it has none, and no TAD is its own (device, NoTadIs31);
  pub left_without : Shows (loop_with meter meter) 30 30 (30 ∷ no_address ∷ []) (aad no_address) (1 ∷ 0 ∷ [])
  -- where it is 30, TAD 30 makes both talkers.
  pub one_too_many : Shows (loop_with meter meter30) 30 30 (30 ∷ 30 ∷ []) (aad no_address) (1 ∷ 1 ∷ [])

-- ---- The accident: a device that takes AAD again

-- as 01 has it, but where it is configured it takes AAD all the same, and sends g of the frame
abbrev pub takes_again : (g : ℕ → ℕ) → Device → ℕ → Sent
takes_again g d f =
    choose (eqb (decoded f).kind (number_of Aad) && (has d auto_address && eqb d.configured 1))
    (sends (placed d (decoded f).offset 1) (g f))
    (takes d f)

-- a configured simple device with ability 32, at the address a
pub record At (a : ℕ) (d : Device) : Type 0 where
  pub able : has d auto_address ≡ true
  pub simple : Simple d
  pub configured : d.configured ≡ 1
  pub address : d.address ≡ a

-- AAD k comes to two such devices in a row.
pub record Accident : Type 0 where
  -- By 01's rules both stay where they are, whatever k is.
  pub by_the_rules : (d e : Device) (a b k : ℕ) → k < no_address → At a d → At b e →
      At a (takes d (aad k)).device × At b (takes e (takes d (aad k)).frame).device
  -- One that takes it again and sends the next, as it did for its first address, comes to the address of a neighbour
  -- that goes by the rules. (A row of none but such devices would only be numbered anew.)
  pub beside_another : (d e : Device) (a k : ℕ) → k < no_address → At a d → At k e →
      let s = takes_again (λ f. f + 1) d (aad k) in At k s.device × At k (takes e s.frame).device
  -- Two that take it again and send it on as it came, as a configured device does, come to one address, whatever theirs
  -- were.
  pub two_of_a_kind : (d e : Device) (a b k : ℕ) → k < no_address → At a d → At b e →
      let s = takes_again (λ f. f) d (aad k) in At k s.device × At k (takes_again (λ f. f) e s.frame).device
  -- Then TAD k makes both the talker, if both can talk: a bench that reads one meter after the other reads one twice.
  pub both_talk : (d e : Device) (k : ℕ) → k < no_address → At k d → At k e → talks d ≡ true → talks e ≡ true →
      ((takes d (tad k)).device.talker ≡ addressed) × ((takes e (takes d (tad k)).frame).device.talker ≡ addressed)
