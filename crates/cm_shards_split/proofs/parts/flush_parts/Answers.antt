use Rattle.std.proofs.Common.{◌∙◌, ◌<◌, length, arith}
use Rattle.std.proofs.lemmas.List.{length-set}
use Rattle.cm_shards_split.proofs.Putting.{all_flushed, counts_kept, flushed_next, prefixes_failed, part_there}
use Rattle.cm_shards_split.proofs.parts.flush_parts.Goals as goal

pub flush-requires : goal.flush-requires
flush-requires g c =
    let held = c.requires.held in
    let inside : c.loop-i.i < length c.loop-i.parts = omega (arith, c.loop-i-test.true, c.loop-i.invariant.0.many, c.loop-i.invariant.1) in
    record { there = part_there c.loop-i.i c.index-parts-i.result (c.loop-i.invariant.0.stands held.to held.lines held.stands).stands inside }

pub returns-in-Err-clause-flushes : goal.returns-in-Err-clause-flushes
returns-in-Err-clause-flushes g c = λ p lines stands.
    let inside : c.loop-i.i < length c.loop-i.parts = omega (arith, c.loop-i-test.true, c.loop-i.invariant.0.many, c.loop-i.invariant.1) in
    prefixes_failed _ _ c.loop-i.i c.index-parts-i.result c.in-Err.fault (c.loop-i.invariant.0.stands p lines stands).stands inside c.in-Err.ensures.files

pub loop-i-preserved : goal.loop-i-preserved
loop-i-preserved g c =
    let inside : c.loop-i.i < length c.loop-i.parts = omega (arith, c.loop-i-test.true, c.loop-i.invariant.0.many, c.loop-i.invariant.1) in
    let done = c.in-Ok.ensures in (
      record {
        stands = λ p lines stands. flushed_next c.loop-i.i c.index-parts-i.result c.flush.new.part (c.loop-i.invariant.0.stands p lines stands) inside done.files done.none done.path done.count;
        many = length-set c.loop-i.parts c.loop-i.i c.flush.new.part ∙ c.loop-i.invariant.0.many;
        counts = counts_kept c.loop-i.parts c.loop-i.i c.index-parts-i.result c.flush.new.part inside done.count ∙ c.loop-i.invariant.0.counts;
        spilled = done.spilled ∙ c.loop-i.invariant.0.spilled;
        read_faults = done.read_faults ∙ c.loop-i.invariant.0.read_faults;
        write_faults = done.cause ∙ c.loop-i.invariant.0.write_faults;
      },
      c.loop-i.invariant.1,
    )

pub returns-clause-flushes : goal.returns-clause-flushes
returns-clause-flushes g c = λ p lines stands.
    let to = c.loop-i.invariant.0.stands p lines stands in
    all_flushed (record { stands = to.stands; none = λ k below. to.none k (omega (arith, below, c.loop-i-test.false, c.loop-i.invariant.0.many, c.loop-i.invariant.1)) })
