-- What the library writes under a width with zeros is the zeros, and then the digits.
use Rattle.std.proofs.Common.{rules, arith, ◌≡◌, ◌-◌, ◌^◌, ◌++◌, false, length, replicate, ℕ, List, []}
use Rattle.std.proofs.lemmas.List.{append-nil}
use Rattle.std.specs.Fmt.{char_count, padded_integral, format_spec}
use Rattle.print.proofs.DigitsDisplay.fmt.Goals as goal

zeros_before : (fewest : ℕ) (numeral : List ℕ) → padded_integral (format_spec 32 0 4 fewest (2 ^ 64 - 1)) false [] numeral ≡ replicate (fewest - length numeral) 48 ++ numeral
unfolding padded_integral char_count
zeros_before fewest numeral = grind (arith, append-nil)

pub returns-clause-writes : goal.returns-clause-writes
returns-clause-writes g c = search (rules, zeros_before)
