use Rattle.cm_store_records.proofs.PutLemmas.{holds_none}
use Rattle.cm_store_records.proofs.records.Records.new.Goals as goal

pub invariant_of-result : goal.invariant_of-result
invariant_of-result c = rw (c.new.ensures.items, c.new-2.ensures.items) holds_none
