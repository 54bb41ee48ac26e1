use Rattle.memchr.specs.Find.{is_byte}
use Rattle.cm_keys.proofs.NearLemmas.{first_taken}
use Rattle.cm_keys.proofs.buffered.near_end.Goals as goal

pub returns : goal.returns
returns c = first_taken (is_byte c.args.end) c.args.bytes.now _ _ c.next.result c.memchr_iter.ensures.value c.next.ensures.steps
