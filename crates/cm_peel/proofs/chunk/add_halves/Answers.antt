use Rattle.std.proofs.Common.{◌∙◌, ℕ, not, eqb, arith}
use Rattle.std.proofs.Math.ListN.{length-set}
use Rattle.cm_peel.proofs.Chunks.{byte_small}
use Rattle.cm_peel.proofs.Halves.{others_written}
use Rattle.cm_peel.proofs.chunk.add_halves.Goals as goal

pub loop-i-preserved : goal.loop-i-preserved
loop-i-preserved g c =
    let inv = c.loop-i.invariant in
    let i : ℕ = c.loop-i.i in
    record {
      long = length-set _ _ _ ∙ inv.long;
      halves = others_written c.args.e c.args.pivot i c.loop-i.at c.args.ends c.loop-i.halves _ (omega (arith, c.loop-i-test.true)) (omega (arith, inv.few, inv.long, c.requires.room, c.loop-i-test.true)) inv.halves;
      few = omega (arith, inv.few, byte_small (not (eqb i c.args.pivot)));
    }
