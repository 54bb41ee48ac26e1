use Rattle.std.proofs.Common.{◌∙◌, ap, rules}
use Rattle.cm_outer.specs.MemFiles.{files_of}
use Rattle.cm_outer.proofs.MemFileLemmas.{not_there, written_in_place, pushed}
use Rattle.cm_outer.proofs.mem_file.set_bytes.Goals as goal

pub returns-in_err-path-in-None-clause-there : goal.returns-in_err-path-in-None-clause-there
returns-in_err-path-in-None-clause-there c = λ there. absurd (not_there _ _ (search rules) there)

pub returns-in_err-push-in-None-clause-there : goal.returns-in_err-push-in-None-clause-there
returns-in_err-push-in-None-clause-there c = λ there. absurd (not_there _ _ (search rules) there)

pub returns-in-Some-clause-ok : goal.returns-in-Some-clause-ok
returns-in-Some-clause-ok c = written_in_place _ _ _ c.index_mut.result.now _ (search rules) (ap (λ f. f.path) c.index_mut.ensures.value)

pub returns-in_ok-push-in-None-clause-ok : goal.returns-in_ok-push-in-None-clause-ok
returns-in_ok-push-in-None-clause-ok c = ap files_of c.in_ok-push-in-None.ensures.items ∙ pushed _ _ _ (search rules) (search rules)
