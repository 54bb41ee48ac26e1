use Rattle.cm_store_file.proofs.reader.read_places.Goals as goal

pub returns-clause-cause : goal.returns-clause-cause
returns-clause-cause g c = rw c.in_ok-image.ensures.cause (c.places_of.ensures.cause _)
