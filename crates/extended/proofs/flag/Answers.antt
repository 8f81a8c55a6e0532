-- Two bytes are written, and each value lies at its own place.
use borrow.Author.Rules.{rules}
use Rattle.record.proofs.Whole.{record_is}
use Rattle.extended.proofs.InPlace.{flags_written}
use Rattle.extended.proofs.flag.Goals as goal

pub returns : goal.returns
returns c =
    let b = c.args.rec.now in
    flags_written b (record_is b c.told-rec (λ i. search rules)) c.args.listen c.args.talk
