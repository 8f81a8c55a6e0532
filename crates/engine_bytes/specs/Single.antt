-- The values that a frame can change by themselves, each of one byte: `store` takes their places and no others.
use Rattle.std.specs.Prelude.{ℕ, Bool, false, ◌||◌, List, [], ◌∷◌, eqb}
use Rattle.device.specs.Change.{listener, service, noted, remote, enabled, assigned}

abbrev pub singles : List ℕ
singles = listener ∷ service ∷ noted ∷ remote ∷ enabled ∷ assigned ∷ []

abbrev pub is_in : ℕ → List ℕ → Bool
is_in p [] = false
is_in p (q ∷ qs) = eqb p q || is_in p qs

abbrev pub is_single : ℕ → Bool
is_single p = is_in p singles
