use Rattle.cm_store.proofs.Comes.{answers_keys}
use Rattle.cm_store.proofs.building.build_store.Goals as goal

pub returns-clause-comes : goal.returns-clause-comes
returns-clause-comes c = answers_keys _ _ _ _ c.store_by.result c.store_by.ensures.made c.store_by.ensures.refused
