-- `frame::with_c1` meets its contract: it cuts data bits and C1 where the definition does.
use mathlib.Core.Path.{sym, ◌∙◌}
use borrow.Author.Rules.{rules}
use Rattle.frame.proofs.Laws.{same, offset_free, c1_free}
use Rattle.frame.proofs.with_c1.Statement.{statement}
use Rattle.frame.proofs.with_c1.Tie as tie

returns : tie.Need-returns
returns c =
    sym
    (same c.args.kind _ _ c.args.frame (sym c.requires.kind) (offset_free c.args.kind c.requires.free c.args.frame)
    (c1_free c.args.kind c.requires.free c.args.frame))

pub with_c1_spec : {M : Type 1} → statement M
with_c1_spec = tie.close (tie.spec (λ c. search rules) (λ c. search rules) returns)
