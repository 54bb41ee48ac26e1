use Rattle.std.proofs.Common.{◌∙◌, ap, sym}
use Rattle.cm_dump_items.specs.StepLaws.{ok_same}
use Rattle.cm_func.specs.declared.function.Func.TheVariants as func
use Rattle.cm_store_file.specs.StoreFiles.{store_in}
use Rattle.cm_store_file.proofs.FaultLemmas.{file_faults}
use Rattle.cm_store_file.proofs.IndexLemmas.{index_short}
use Rattle.cm_store_file.proofs.ReadBackLemmas.{file_of}
use Rattle.cm_store_file.proofs.SpellingLemmas.{store_back}
use Rattle.cm_store_file.proofs.laws.files_spell.Goals as goal

pub returns-clause-spelling : goal.returns-clause-spelling
returns-clause-spelling c = λ s is index. store_back s is (index_short s.index index) (c.dumps_spell.ensures.spelling (func.Bdz s.index) index)

pub returns-clause-same : goal.returns-clause-same
returns-clause-same c = λ s t is index other other_index same.
    let first = store_back s is (index_short s.index index) (c.dumps_spell.ensures.spelling (func.Bdz s.index) index) in
    let second = store_back t other (index_short t.index other_index) (c.dumps_spell.ensures.spelling (func.Bdz t.index) other_index) in
    ok_same (sym first ∙ ap store_in same ∙ second)

pub returns-clause-bytes : goal.returns-clause-bytes
returns-clause-bytes c = λ bytes s below is. let known = file_of c.dumps_spell.ensures.dump bytes s below is in (known.valid, known.index, known.file)

pub returns-clause-faults : goal.returns-clause-faults
returns-clause-faults c = λ bytes fault is. file_faults bytes fault is
