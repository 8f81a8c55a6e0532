-- Tests joined by `&&`: each equal to another, so that the joined ones are; and what one that was passed, or failed,
-- says of both.
use mathlib.Core.Path.{◌≡◌, refl}
use mathlib.Core.Bool.{Bool, true, false, ◌&&◌}

pub both : {p q a b : Bool} → p ≡ a → q ≡ b → (p && q) ≡ (a && b)
both e f = rw (e, f)

pub both_true : {a b : Bool} → a ≡ true → b ≡ true → (a && b) ≡ true
both_true e f = rw (e, f)

pub left : (a b : Bool) → (a && b) ≡ true → a ≡ true
left true b h = refl
left false b h = h

pub right : (a b : Bool) → (a && b) ≡ true → b ≡ true
right true b h = h
right false b h = let z : false ≡ true = h in cc

pub never : (a : Bool) → (a && false) ≡ false
never true = refl
never false = refl

pub passed : {a b r x : Bool} → r ≡ a → r ≡ true → x ≡ b → x ≡ (a && b)
passed e t h = rw (← e, t) h

pub failed : {a r : Bool} (b : Bool) → r ≡ a → r ≡ false → false ≡ (a && b)
failed b e t = rw (← e, t)

pub ruleset chain = (passed, failed)
