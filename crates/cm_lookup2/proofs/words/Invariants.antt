use Rattle.std.proofs.Common.{◌≡◌, take}
use Rattle.std.specs.Prelude.{fold}
use Rattle.cm_spec.specs.Lookup2.{absorb, start}
use Rattle.cm_lookup2.proofs.words.Given as goal

abbrev pub invariant-loop-block : goal.invariant-loop-block
invariant-loop-block l = l.s ≡ fold absorb (start l.seed) (take l.block-index l.blocks)
