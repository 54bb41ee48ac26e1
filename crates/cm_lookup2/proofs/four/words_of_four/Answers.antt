use Rattle.std.proofs.Common.{◌∙◌, ap, arith, map}
use Rattle.cm_spec.specs.Lookup2.{list_of_state}
use Rattle.std.specs.Prelude.{slice_index}
use Rattle.cm_lookup2.proofs.LaneLemmas.{block_more, same_four, words_then}
use Rattle.cm_lookup2.proofs.four.words_of_four.Goals as goal

pub loop-i-preserved : goal.loop-i-preserved
loop-i-preserved c =
    let i = c.loop-i.i in
    let p = c.as_chunks.result.0.now in
    c.absorb-s.ensures ∙ rw c.loop-i.invariant (same_four
    (block_more _ p i _ c.loop-i-test.true c.block_of.ensures.a c.block_of.ensures.b c.block_of.ensures.c)
    (block_more _ c.as_chunks-2.result.0.now i _ (omega (arith, c.loop-i-test.true, c.if-q_blocks-n.false)) c.block_of-in-loop-i.ensures.a c.block_of-in-loop-i.ensures.b c.block_of-in-loop-i.ensures.c)
    (block_more _ c.as_chunks-3.result.0.now i _ (omega (arith, c.loop-i-test.true, c.if-r_blocks-n.false)) c.block_of-in-loop-i-2.ensures.a c.block_of-in-loop-i-2.ensures.b c.block_of-in-loop-i-2.ensures.c)
    (block_more _ c.as_chunks-4.result.0.now i _ (omega (arith, c.loop-i-test.true, c.if-t_blocks-n.false)) c.block_of-in-loop-i-3.ensures.a c.block_of-in-loop-i-3.ensures.b c.block_of-in-loop-i-3.ensures.c))

pub returns : goal.returns
returns c =
    let i = c.loop-i.i in
    let seed = slice_index c.args.seeds in
    record {
      words = c.of.ensures ∙ ap (map list_of_state) c.absorb-s-2.ensures ∙ rw c.loop-i.invariant (same_four
          (words_then c.args.p.now _ _ (seed 0) i _ c.as_chunks.ensures.front c.as_chunks.ensures.back c.loop-i-test.false c.last_of.ensures.a c.last_of.ensures.b c.last_of.ensures.c)
          (words_then c.args.q.now _ _ (seed 1) i _ c.as_chunks-2.ensures.front c.as_chunks-2.ensures.back (omega (arith, c.loop-i-test.false, c.if-q_blocks-n.false)) c.last_of-2.ensures.a c.last_of-2.ensures.b c.last_of-2.ensures.c)
          (words_then c.args.r.now _ _ (seed 2) i _ c.as_chunks-3.ensures.front c.as_chunks-3.ensures.back (omega (arith, c.loop-i-test.false, c.if-r_blocks-n.false)) c.last_of-3.ensures.a c.last_of-3.ensures.b c.last_of-3.ensures.c)
          (words_then c.args.t.now _ _ (seed 3) i _ c.as_chunks-4.ensures.front c.as_chunks-4.ensures.back (omega (arith, c.loop-i-test.false, c.if-t_blocks-n.false)) c.last_of-4.ensures.a c.last_of-4.ensures.b c.last_of-4.ensures.c));
    }
