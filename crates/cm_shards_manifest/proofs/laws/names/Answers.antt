use Rattle.cm_shards_manifest.specs.PathsLaws.{own_path, relative_name}
use Rattle.cm_shards_manifest.proofs.laws.names.Goals as goal

pub returns : goal.returns
returns c = record { path = own_path; relative = relative_name }
