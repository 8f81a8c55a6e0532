-- The chunks are the parts.
use Rattle.std.proofs.Common.{rules}
use Rattle.area.proofs.Chunks.{callable, all_told}
use Rattle.area.proofs.runs.all_parts.Goals as goal

pub all-requires-clause-callable : goal.all-requires-clause-callable
all-requires-clause-callable g c =
    callable _ c.args.width c.args.test (λ x r f' k. search rules) _ (search rules) (λ x h. search rules)

pub returns : goal.returns
returns g c t tells =
    let a = c.args in
    let laws = g.met.F.FnMut.1 in
    all_told _ a.width a.test (λ x r f' k. search rules) t
    (λ x r f' h k. tells x r h ((laws.post_iff a.test (x, tt) r).1 (f', record { met = k.met })))
    c.chunks_exact.result _ a.n a.bytes.now c.all.result c.requires.width c.requires.long c.chunks_exact.ensures.size
    c.chunks_exact.ensures.rest c.all.ensures.ran
