use Rattle.std.proofs.Common.{◌∙◌, sym, ap}
use Rattle.std.proofs.lemmas.Bool.{false≢true}
use Rattle.cm_brz_split.specs.SpilledLaws.{both_ok}
use Rattle.cm_spill.specs.Stores.{Store}
use Rattle.cm_brz_split.proofs.runs.RunsStore.put.Goals as goal

pub returns-clause-holds : goal.returns-clause-holds
returns-clause-holds g c = λ records holds.
    both_ok c.put.result (λ held state. record {
      known = c.put.ensures.known ∙ holds.known;
      held = held records holds.held;
      written = λ sealed. absurd (false≢true (sym (ap (λ (s : Store). s.sealed) state ∙ c.requires.open) ∙ sealed));
    }) c.put.ensures.holds c.put.ensures.ok
