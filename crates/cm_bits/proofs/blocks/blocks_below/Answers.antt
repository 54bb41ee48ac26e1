use Rattle.std.proofs.Common.{arith, ◌+◌}
use Rattle.cm_bits.specs.declared.blocks.TheConstants.{BLOCK}
use Rattle.cm_bits.proofs.FieldsLemmas.{group_room}
use Rattle.cm_bits.proofs.blocks.blocks_below.Goals as goal

pub is_block_below-requires-clause-room : goal.is_block_below-requires-clause-room
is_block_below-requires-clause-room c =
    group_room c.args.width c.args.n (c.loop-groups.groups + BLOCK) c.args.held.now c.requires.held.whole (omega (arith, c.loop-groups-test.true))
