-- What holds of all 43 kinds is one computed test over a list of them, since the list has each kind at its number. So a
-- kind's number is its own, and is the place of its variant.
use Prim.Native.Nat.{ℕ, zero, suc, ◌≤◌}
use mathlib.Core.Path.{◌≡◌, refl, sym, ap, ◌∙◌}
use mathlib.Core.List.{List, [], ◌∷◌}
use mathlib.Core.Bool.{Bool, true, false, ◌&&◌, ◌||◌}
use lib.Dec.{T, eqb, eqb→eq, leb, leb→le}
use lib.ListN.{get_or}
use mir.Facts.{and_yes}
use denote.Enum.Declared.{tag_of}
use Rattle.frame.specs.Messages.{number_of, messages, codes_in, codes_of}
use Rattle.frame.specs.Decoding.{has_c1}
use Rattle.frame.specs.Laws.{OneKind}
use Rattle.frame.specs.declared.Kind.{Kind}
use Rattle.frame.specs.declared.Kind.TheVariants as kind
use Rattle.frame.specs.contracts.Kind.{the_type}

abbrev all_kinds : List Kind
all_kinds =
    kind.Unused ∷ kind.Dab ∷ kind.End ∷ kind.Nul ∷ kind.Gtl ∷ kind.Sdc ∷ kind.Ppd ∷ kind.Get ∷ kind.Llo ∷ kind.Dcl ∷
    kind.Ppu ∷ kind.Ear ∷ kind.Lad ∷ kind.Unl ∷ kind.Tad ∷ kind.Unt ∷ kind.Sad ∷ kind.Ppe ∷ kind.Ifc ∷ kind.Ren ∷
    kind.Nre ∷ kind.Aau ∷ kind.Lpd ∷ kind.Ddl ∷ kind.Ddt ∷ kind.Rfc ∷ kind.Eto ∷ kind.Ete ∷ kind.Nrd ∷ kind.Sda ∷
    kind.Sst ∷ kind.Sdi ∷ kind.Sai ∷ kind.Tct ∷ kind.Aad ∷ kind.Iaa ∷ kind.Aep ∷ kind.Iep ∷ kind.Aes ∷ kind.Ies ∷
    kind.Amp ∷ kind.Imp ∷ kind.Idy ∷ []

placed : (k : Kind) → get_or all_kinds (number_of k) kind.Unused ≡ k
placed kind.Unused = refl
placed kind.Dab = refl
placed kind.End = refl
placed kind.Nul = refl
placed kind.Gtl = refl
placed kind.Sdc = refl
placed kind.Ppd = refl
placed kind.Get = refl
placed kind.Llo = refl
placed kind.Dcl = refl
placed kind.Ppu = refl
placed kind.Ear = refl
placed kind.Lad = refl
placed kind.Unl = refl
placed kind.Tad = refl
placed kind.Unt = refl
placed kind.Sad = refl
placed kind.Ppe = refl
placed kind.Ifc = refl
placed kind.Ren = refl
placed kind.Nre = refl
placed kind.Aau = refl
placed kind.Lpd = refl
placed kind.Ddl = refl
placed kind.Ddt = refl
placed kind.Rfc = refl
placed kind.Eto = refl
placed kind.Ete = refl
placed kind.Nrd = refl
placed kind.Sda = refl
placed kind.Sst = refl
placed kind.Sdi = refl
placed kind.Sai = refl
placed kind.Tct = refl
placed kind.Aad = refl
placed kind.Iaa = refl
placed kind.Aep = refl
placed kind.Iep = refl
placed kind.Aes = refl
placed kind.Ies = refl
placed kind.Amp = refl
placed kind.Imp = refl
placed kind.Idy = refl

pub one_kind : OneKind
one_kind j k e = sym (placed j) ∙ ap (λ (n : ℕ). get_or all_kinds n kind.Unused) e ∙ placed k

abbrev all : (Kind → Bool) → List Kind → Bool
all p [] = true
all p (k ∷ ks) = p k && all p ks

each : (p : Kind → Bool) (ks : List Kind) (n : ℕ) → T (p kind.Unused) → T (all p ks) → T (p (get_or ks n kind.Unused))
each p [] n u t = u
each p (k ∷ ks) zero u t = (and_yes (p k) (all p ks) t).0
each p (k ∷ ks) (suc n) u t = each p ks n u (and_yes (p k) (all p ks) t).1

every : (p : Kind → Bool) → T (p kind.Unused) → T (all p all_kinds) → (k : Kind) → T (p k)
every p u t k = rw (placed k) at (each p all_kinds (number_of k) u t)

-- The place of a kind's variant, by which a match goes, is the kind's number
pub tag : (k : Kind) → tag_of the_type k ≡ number_of k
tag k = eqb→eq _ _ (every (λ j. eqb (tag_of the_type j) (number_of j)) tt tt k)

-- A kind without C1 has at most 256 codes
pub short : (k : Kind) → has_c1 (number_of k) ≡ false → codes_of (number_of k) ≤ 256
unfolding messages codes_in codes_of has_c1
short k h = leb→le _ _ (rw h at (every (λ j. has_c1 (number_of j) || leb (codes_of (number_of j)) 256) tt tt k))
