use Rattle.std.proofs.Common.{◌∙◌, sym, arith}
use Rattle.std.proofs.lemmas.Bool.{false≢true}
use Rattle.cm_shards_query.proofs.TakingLemmas.{taken_none}
use Rattle.cm_shards_query.proofs.taking.take_first.Goals as goal

pub returns-then-take_next-clause-fills : goal.returns-then-take_next-clause-fills
returns-then-take_next-clause-fills g c =
    let took = c.take_next.ensures in
    (took.takes c.if-take_next.true _ (taken_none _ _ c.requires.none), omega (arith, took.longer c.if-take_next.true))

pub returns-in-Ok-false-clause-buffered : goal.returns-in-Ok-false-clause-buffered
returns-in-Ok-false-clause-buffered g c = λ key buffered. absurd (false≢true (sym c.if-take_next.false ∙ c.take_next.ensures.buffered key buffered))

pub returns-in-Err-clause-buffered : goal.returns-in-Err-clause-buffered
returns-in-Err-clause-buffered g c = λ key buffered. absurd (false≢true (sym c.if-take_next.false ∙ c.take_next.ensures.buffered key buffered))
