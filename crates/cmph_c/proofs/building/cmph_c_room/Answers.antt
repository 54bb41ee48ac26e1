use Rattle.cmph_c.proofs.RoomLemmas.{written_is}
use Rattle.cmph_c.proofs.building.cmph_c_room.Goals as goal

pub returns-clause-written : goal.returns-clause-written
returns-clause-written c = λ bytes ends old new written many built.
    written_is c.args.plan.now bytes ends old new written c.args.keys c.room_of.result c.dumps_fit.ensures.dump c.room_of.ensures.room many built
