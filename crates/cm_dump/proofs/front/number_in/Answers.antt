use Rattle.std.proofs.Common.{◌-◌, ◌≤◌, arith}
use Rattle.cm_dump_items.specs.PartLaws.{part_from}
use Rattle.cm_dump.specs.declared.header.TheConstants.{HEADER_LEN}
use Rattle.cm_dump.proofs.front.number_in.Goals as goal

pub returns-clause-exact : goal.returns-clause-exact
returns-clause-exact c = λ dump part.
    let few : 4 ≤ HEADER_LEN - c.args.at = omega (arith, c.requires.at) in
    c.number_of.ensures.exact dump (HEADER_LEN - c.args.at) few (part_from dump c.args.bytes.now HEADER_LEN c.args.at part c.requires.before)
