-- Lines of a source that are buffered.
use Rattle.std.proofs.Common.{inl, inr, ℕ, List, arith}
use Rattle.cm_io.specs.declared.key_pass.TheConstants.{MAX_KEY_LEN}
use Rattle.cm_keys.specs.Streams.{IsBuffered, LineStream, NoneBuffered}
use Rattle.cm_keys.proofs.NextLemmas.{not_open}
use Rattle.cm_keys.proofs.PieceLemmas.{no_line}

-- If no line is buffered, none of these bytes is one.
pub none_buffered : (stream : LineStream) (key : List ℕ) → NoneBuffered stream → IsBuffered stream key → ⊥
none_buffered stream key (inl full) (looked, few, left, takes) = not_open stream.count stream.first full looked
none_buffered stream key (inr (inl many)) (looked, few, left, takes) = omega (arith, many, few)
none_buffered stream key (inr (inr none)) (looked, few, left, takes) = no_line MAX_KEY_LEN stream.end stream.waiting left key none takes
