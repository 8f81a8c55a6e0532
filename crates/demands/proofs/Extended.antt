-- What the page says of extended addresses is proved of devices and of records.
use Rattle.device.proofs.ExtendedSentences.{simple_alone, remembers, by_second, assigned, place_kept}
use Rattle.device.proofs.ExtendedTable.{extended_table}
use Rattle.record.proofs.Laws.{variants, any_half}
use Rattle.demands.specs.Demands.{ExtendedAddresses}

pub extended_addresses : ExtendedAddresses
extended_addresses =
    record {
      table = extended_table;
      simple_alone = simple_alone;
      remembers = remembers;
      by_second = by_second;
      assigned = assigned;
      place_kept = place_kept;
      variants = variants;
      any_half = any_half;
    }
