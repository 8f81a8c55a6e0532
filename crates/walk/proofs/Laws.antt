-- The laws of specs/Laws.antt.
use mathlib.Core.Path.{sym, ◌∙◌}
use Rattle.walk.specs.Laws.{WalkUnique}

pub walk_unique : WalkUnique
walk_unique w r s a b t u p q =
    (p.answer ∙ sym q.answer, p.records ∙ sym q.records, p.told ∙ sym q.told)
