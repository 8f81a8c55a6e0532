-- The table holds the message table's kind of each frame, by one computed comparison, and nothing past the frames.
use Rattle.std.proofs.Common.{◌≡◌, ℕ, zero, suc, ◌≤◌, List, Bor, length, get_or, refl, sym, ◌∙◌, ap}
use mathlib.Core.Logic.{⊎_elim}
use Rattle.std.specs.Prelude.{Option, None, Some}
use Rattle.std.specs.Option.{unwrap_or, option_copied}
use Rattle.std.specs.Slice.{IsItemAt}
use Rattle.std.proofs.lemmas.Bool.{cases_lt}
use Rattle.std.proofs.lemmas.List.{get_or_past, get_or_read_under}
use Rattle.frame.specs.Messages.{frames, messages, within, lookup, kind_at}
use Rattle.frame.proofs.Rows.{no_frame}
use Rattle.frame.proofs.Table.{values, entry}
use Rattle.published.proofs.kind.Goals as goal

found : (xs : List ℕ) (f : ℕ) (p : Option (Bor ℕ)) → IsItemAt xs f p → unwrap_or (option_copied p) 0 ≡ get_or xs f 0
found xs f None h = sym (get_or_past xs f 0 h.3)
found xs f (Some x) h = get_or_read_under xs f (length xs) x.now 0 h.1 h.3.0 refl

counted : (g : ℕ → ℕ) (i n : ℕ) → length (values g i n) ≡ n
counted g i zero = refl
counted g i (suc n) = ap suc (counted g (suc i) n)

none_past : (g : ℕ → ℕ) (n f : ℕ) → n ≤ f → get_or (values g 0 n) f 0 ≡ 0
none_past g n f past = get_or_past (values g 0 n) f 0 (rw (counted g 0 n) past)

of_frame : (f : ℕ) → get_or (values kind_at 0 frames) f 0 ≡ kind_at f
of_frame f = ⊎_elim (entry kind_at frames f) (λ past. none_past kind_at frames f past ∙ sym (no_frame f past)) (cases_lt f frames)

pub returns : goal.returns
unfolding messages within lookup kind_at
returns c = c.unwrap_or.ensures ∙ ap (λ (o : Option ℕ). unwrap_or o 0) c.copied.ensures ∙ found (values kind_at 0 frames) c.args.frame c.get.result c.get.ensures.lookup ∙ of_frame c.args.frame
