use Rattle.std.proofs.Common.{rules, arith}
use Rattle.cm_shards_join.proofs.SpanLemmas.{name_size, span_some}
use Rattle.cm_shards_join.proofs.taking.shard_of.Goals as goal

pub returns-clause-valid : goal.returns-clause-valid
returns-clause-valid c = record {
  name = name_size c.args.name c.requires.name;
  text = c.requires.utf8;
  keys = c.keys_of.ensures.within;
  span = (omega (arith, c.span.ensures.span, span_some c.args.function.now c.requires.valid), c.span.ensures.few);
  len = search rules;
  digest = search rules;
}
