use Rattle.cm_store_dump.proofs.building.StoreBuilderBuilder.make.Goals as goal

pub returns-clause-cause : goal.returns-clause-cause
returns-clause-cause g c = c.make_store.ensures.cause _
