use Rattle.cm_io.specs.FilesLaws.{is_there}
use Rattle.cm_io_append.specs.ExtendingLaws.{is_extended}
use Rattle.test_crates.proofs.memory.store_pieces.Goals as goal

pub close-requires : goal.close-requires
close-requires g c = record { there = is_there _ _ _ _ c.in_ok-writer.ensures.files }

pub append-requires : goal.append-requires
append-requires g c = record { there = is_there _ _ _ _ c.in_ok-close.ensures.files }

pub append-requires-2 : goal.append-requires-2
append-requires-2 g c = record { there = is_extended _ _ _ _ c.in_ok-append.ensures.files }
