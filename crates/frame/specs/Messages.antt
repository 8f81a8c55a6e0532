-- The message table: the codes of each kind as 01, "Frames and their kinds", lists them, and what follows from it:
-- the kind of every frame, and each kind's first code and count of codes.
use Rattle.std.specs.Prelude.{ℕ, ◌+◌, ◌-◌, List, [], ◌∷◌, Bool, ◌&&◌, cond, leb, eqb}
use Rattle.frame.specs.declared.Kind.{Kind}
use Rattle.frame.specs.declared.Kind.TheVariants as kind

-- Frames are the numbers below this: three control bits and eight data bits
abbrev pub frames : ℕ
frames = 2048

-- Kinds are the numbers below this: 0 and the 42 of the list
abbrev pub kinds : ℕ
kinds = 43

-- A kind, and its codes from first to last, both included
pub record Row : Type 0 where
  pub kind : ℕ
  pub first : ℕ
  pub last : ℕ

abbrev pub row : ℕ → ℕ → ℕ → Row
row k a b = record { kind = k; first = a; last = b }

unfoldable pub messages : List Row
messages =
    row 1 0x000 0x1ff ∷  -- DAB, data byte
    row 2 0x200 0x3ff ∷  -- END, end byte
    row 3 0x400 0x400 ∷  -- NUL, null command
    row 4 0x401 0x401 ∷  -- GTL, go to local
    row 5 0x404 0x404 ∷  -- SDC, selected device clear
    row 6 0x405 0x405 ∷  -- PPD, parallel poll disable
    row 7 0x408 0x408 ∷  -- GET, group execute trigger
    row 8 0x411 0x411 ∷  -- LLO, local lockout
    row 9 0x414 0x414 ∷  -- DCL, device clear
    row 10 0x415 0x415 ∷  -- PPU, parallel poll unconfigure
    row 11 0x418 0x418 ∷  -- EAR, enable asynchronous requests
    row 12 0x420 0x43e ∷  -- LAD, listen address 0-30
    row 13 0x43f 0x43f ∷  -- UNL, unlisten
    row 14 0x440 0x45e ∷  -- TAD, talk address 0-30
    row 15 0x45f 0x45f ∷  -- UNT, untalk
    row 16 0x460 0x47e ∷  -- SAD, secondary address 0-30
    row 17 0x480 0x48f ∷  -- PPE, parallel poll enable 0-15
    row 18 0x490 0x490 ∷  -- IFC, interface clear
    row 19 0x492 0x492 ∷  -- REN, remote enable
    row 20 0x493 0x493 ∷  -- NRE, not remote enable
    row 21 0x49a 0x49a ∷  -- AAU, auto address unconfigure
    row 22 0x49b 0x49b ∷  -- LPD, loop power down
    row 23 0x4a0 0x4bf ∷  -- DDL, device dependent listener command 0-31
    row 24 0x4c0 0x4df ∷  -- DDT, device dependent talker command 0-31
    row 25 0x500 0x500 ∷  -- RFC, ready for command
    row 26 0x540 0x540 ∷  -- ETO, end of transmission, OK
    row 27 0x541 0x541 ∷  -- ETE, end of transmission, error
    row 28 0x542 0x542 ∷  -- NRD, not ready for data
    row 29 0x560 0x560 ∷  -- SDA, send data
    row 30 0x561 0x561 ∷  -- SST, send status
    row 31 0x562 0x562 ∷  -- SDI, send device ID
    row 32 0x563 0x563 ∷  -- SAI, send accessory ID
    row 33 0x564 0x564 ∷  -- TCT, take control
    row 34 0x580 0x59e ∷  -- AAD, auto address 0-30
    row 35 0x59f 0x59f ∷  -- IAA, illegal auto address
    row 36 0x5a0 0x5be ∷  -- AEP, auto extended primary 0-30
    row 37 0x5bf 0x5bf ∷  -- IEP, illegal extended primary
    row 38 0x5c0 0x5de ∷  -- AES, auto extended secondary 0-30
    row 39 0x5df 0x5df ∷  -- IES, illegal extended secondary
    row 40 0x5e0 0x5fe ∷  -- AMP, auto multiple primary 0-30
    row 41 0x5ff 0x5ff ∷  -- IMP, illegal multiple primary
    row 42 0x600 0x7ff ∷  -- IDY, identify
    []

unfoldable pub within : Row → ℕ → Bool
within r f = leb r.first f && leb f r.last

unfoldable pub lookup : List Row → ℕ → ℕ
lookup [] f = 0
lookup (r ∷ rs) f = cond (within r f) r.kind (lookup rs f)

-- The kind of a frame: that of the row it is within, and 0 where there is none
unfoldable pub kind_at : ℕ → ℕ
kind_at f = lookup messages f

unfoldable pub first_in : List Row → ℕ → ℕ
first_in [] k = 0
first_in (r ∷ rs) k = cond (eqb r.kind k) r.first (first_in rs k)

unfoldable pub codes_in : List Row → ℕ → ℕ
codes_in [] k = 0
codes_in (r ∷ rs) k = cond (eqb r.kind k) (r.last + 1 - r.first) (codes_in rs k)

-- The first code of kind k
unfoldable pub first_of : ℕ → ℕ
first_of k = first_in messages k

-- How many codes kind k has: none where it is not in the list
unfoldable pub codes_of : ℕ → ℕ
codes_of k = codes_in messages k

-- The number of a kind in the list; every other frame is of kind 0
abbrev pub number_of : Kind → ℕ
number_of kind.Unused = 0
number_of kind.Dab = 1
number_of kind.End = 2
number_of kind.Nul = 3
number_of kind.Gtl = 4
number_of kind.Sdc = 5
number_of kind.Ppd = 6
number_of kind.Get = 7
number_of kind.Llo = 8
number_of kind.Dcl = 9
number_of kind.Ppu = 10
number_of kind.Ear = 11
number_of kind.Lad = 12
number_of kind.Unl = 13
number_of kind.Tad = 14
number_of kind.Unt = 15
number_of kind.Sad = 16
number_of kind.Ppe = 17
number_of kind.Ifc = 18
number_of kind.Ren = 19
number_of kind.Nre = 20
number_of kind.Aau = 21
number_of kind.Lpd = 22
number_of kind.Ddl = 23
number_of kind.Ddt = 24
number_of kind.Rfc = 25
number_of kind.Eto = 26
number_of kind.Ete = 27
number_of kind.Nrd = 28
number_of kind.Sda = 29
number_of kind.Sst = 30
number_of kind.Sdi = 31
number_of kind.Sai = 32
number_of kind.Tct = 33
number_of kind.Aad = 34
number_of kind.Iaa = 35
number_of kind.Aep = 36
number_of kind.Iep = 37
number_of kind.Aes = 38
number_of kind.Ies = 39
number_of kind.Amp = 40
number_of kind.Imp = 41
number_of kind.Idy = 42
