use Rattle.cm_shards_manifest.proofs.NearLemmas.{manifest_few}
use Rattle.cm_shards_manifest.proofs.laws.max_manifest_bytes.Goals as goal

pub returns-clause-most : goal.returns-clause-most
returns-clause-most c = manifest_few
