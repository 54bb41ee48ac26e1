use Rattle.cm_io.specs.FilesLaws.{is_there}
use Rattle.test_crates.proofs.memory.store.Goals as goal

pub close-requires : goal.close-requires
close-requires g c = record { there = is_there _ _ _ _ c.in_ok-writer.ensures.files }
