use Rattle.std.proofs.Common.{◌≡◌, length, take}
use Rattle.cm_bdz.specs.Functions.{bdz_answer}
use Rattle.cm_store.proofs.FillLemmas.{IsFilled}
use Rattle.cm_store.proofs.filling.places_of.Given as goal
use Rattle.cm_store_records.specs.RecordPass.{IsRecordPass}
use Rattle.cm_store_records.specs.Records.{records_in}

abbrev pub invariant-records : goal.invariant-records
invariant-records l =
    let lines = l.fn.records.lines in
    record {
      bytes_are : l.bytes ≡ l.fn.records.bytes;
      count_is : l.count ≡ length lines;
      bound_is : l.places.bound ≡ length l.bytes;
      long : length l.places.items.items ≡ length lines;
      pass : IsRecordPass lines l.bytes l.i l.at;
      filled : IsFilled (bdz_answer l.index) l.places.items.items (take l.i (records_in (length lines) l.bytes)) l.at;
    }
