use Rattle.std.proofs.Common.{rules}
use Rattle.cm_io.proofs.WriteLemmas.{piece_failed, piece_written}
use Rattle.cm_io.proofs.sink.write_pieces.Goals as goal

pub returns-in_err-write-clause-bytes : goal.returns-in_err-write-clause-bytes
returns-in_err-write-clause-bytes g c = piece_failed _ _ _ _ _ _ _ c.loop-piece-test.true c.from_residual.ensures.0 c.loop-piece.invariant.bytes c.in_err-write.ensures.bytes

pub loop-piece-preserved : goal.loop-piece-preserved
loop-piece-preserved g c = record {
  bytes = piece_written _ _ _ _ _ _ c.loop-piece-test.true c.loop-piece.invariant.bytes c.in_ok-write.ensures.bytes;
  quiet = search rules;
}
