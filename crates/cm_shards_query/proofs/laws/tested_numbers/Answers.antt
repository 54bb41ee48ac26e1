use Rattle.cm_shards_query.proofs.laws.tested_numbers.Goals as goal

pub returns : goal.returns
returns c = record {
  taken = λ f keys lines good below. c.numbers_taken.ensures.all lines f keys (record {
    below = λ i inside. let it = good.each i inside in (it.0, it.1, below _ it.0 it.1);
    apart = good.apart;
  }) good.count;
}
