use Rattle.std.proofs.Common.{ap, refl}
use Rattle.std.specs.FinMap as map
use Rattle.cm_store_dump.proofs.laws.all_answered.Goals as goal
use Rattle.cm_store_file.specs.StoreFiles.{store_bytes}
use Rattle.cm_store_records.specs.Records.{value_in}
use Rattle.cm_tool_building.specs.StoreLaws.{written_at}

pub returns : goal.returns
returns c = λ job files bytes file there is. record {
  bytes = bytes;
  there = there;
  after = map.insert files job.store (store_bytes file.store);
  known = refl;
  saved = store_bytes file.store;
  saved_there = written_at files job.store (store_bytes file.store);
  store = file.store;
  spells = c.files_spell.ensures.spelling file.store is.is is.index;
  all = λ key. ap (λ rs. value_in rs key) is.records;
}
