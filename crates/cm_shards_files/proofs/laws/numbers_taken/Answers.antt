use Rattle.cm_shards_files.proofs.TakenLemmas.{all_taken}
use Rattle.cm_shards_files.proofs.laws.numbers_taken.Goals as goal

pub returns : goal.returns
returns c = record { all = all_taken }
