use Rattle.std.proofs.Common.{rules}
use Rattle.std.specs.FinMap.{gets}
use Rattle.cm_lib_lent.proofs.disk.LentDiskDisk.close.Goals as goal

-- there are no files
pub unreachable-requires : goal.unreachable-requires
unreachable-requires c = grind (gets, c.requires.there, rules)
