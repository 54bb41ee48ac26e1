use Rattle.cm_shards_manifest.proofs.ReadBackLemmas.{file_of}
use Rattle.cm_shards_manifest.proofs.SpellingLemmas.{manifest_back, same_from_file}
use Rattle.cm_shards_manifest.proofs.laws.files_spell.Goals as goal

pub returns-clause-spelling : goal.returns-clause-spelling
returns-clause-spelling c = λ m is. manifest_back m is

pub returns-clause-same : goal.returns-clause-same
returns-clause-same c = λ m n is other same. same_from_file m n is other same

pub returns-clause-bytes : goal.returns-clause-bytes
returns-clause-bytes c = λ bytes m below is. file_of bytes m below is
