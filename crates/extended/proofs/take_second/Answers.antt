-- One byte is written, and its value lies at its own place.
use borrow.Author.Rules.{rules}
use Rattle.record.proofs.Whole.{record_is}
use Rattle.extended.proofs.InPlace.{second_written}
use Rattle.extended.proofs.take_second.Goals as goal

pub returns : goal.returns
returns c =
    let b = c.args.rec.now in
    second_written b (record_is b c.told-rec (λ i. search rules)) c.args.address
