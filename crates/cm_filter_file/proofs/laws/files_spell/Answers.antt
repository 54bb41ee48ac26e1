use Rattle.cm_filter_file.proofs.FaultLemmas.{file_faults}
use Rattle.cm_filter_file.proofs.ReadBackLemmas.{file_of}
use Rattle.cm_filter_file.proofs.SpellingLemmas.{filter_back, same_from_file}
use Rattle.cm_filter_file.proofs.laws.files_spell.Goals as goal

pub returns-clause-spelling : goal.returns-clause-spelling
returns-clause-spelling c = λ f is. filter_back f is

pub returns-clause-same : goal.returns-clause-same
returns-clause-same c = λ f g is other same. same_from_file f g is other same

pub returns-clause-bytes : goal.returns-clause-bytes
returns-clause-bytes c = λ bytes f below is. file_of bytes f below is

pub returns-clause-faults : goal.returns-clause-faults
returns-clause-faults c = λ bytes fault is. file_faults bytes fault is
