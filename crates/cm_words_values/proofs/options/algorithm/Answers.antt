use Rattle.std.proofs.Common.{arith}
use Rattle.cm_words_values.proofs.NameLemmas.{named_found}
use Rattle.cm_words_values.proofs.options.algorithm.Goals as goal

pub returns-in-Some : goal.returns-in-Some
returns-in-Some c = let is = named_found c.in-Some.text.now c.from_name.result c.from_name.ensures.known c.from_name.ensures.found in grind (arith, is)
