use Rattle.std.proofs.Common.{◌∙◌}
use Rattle.cmph_c.proofs.RoomLemmas.{same_len}
use Rattle.cmph_c.proofs.building.room_of.Goals as goal

pub returns-in-Some-clause-room : goal.returns-in-Some-clause-room
returns-in-Some-clause-room c = λ _ plan for. c.dump_len.ensures.len ∙ same_len c.args.plan.now _ plan c.args.keys c.in-Some.ensures.plan for
