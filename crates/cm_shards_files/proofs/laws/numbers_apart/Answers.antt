use Rattle.std.proofs.Common.{sym}
use Rattle.cm_shards_files.proofs.ApartLemmas.{apart_in_all, as_many}
use Rattle.cm_shards_files.proofs.TakenLemmas.{all_taken}
use Rattle.cm_shards_files.proofs.laws.numbers_apart.Goals as goal

pub returns : goal.returns
returns c = record {
  apart = apart_in_all;
  count = as_many;
  taken = λ keys s is apart gaps. all_taken keys _ _ (apart_in_all keys s is apart) (sym (as_many keys s is gaps));
}
