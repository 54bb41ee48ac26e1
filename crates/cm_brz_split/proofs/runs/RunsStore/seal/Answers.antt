use Rattle.std.proofs.Common.{◌∙◌, ap}
use Rattle.cm_brz_split.specs.SpilledLaws.{both_ok}
use Rattle.cm_spill.specs.Stores.{Store}
use Rattle.cm_brz_split.proofs.runs.RunsStore.seal.Goals as goal

pub returns-clause-holds : goal.returns-clause-holds
returns-clause-holds g c = λ records holds.
    both_ok c.seal.result (λ held state. record {
      known = c.seal.ensures.known ∙ holds.known;
      held = held records holds.held;
      written = λ sealed. ap (λ (s : Store). s.waiting) state;
    }) c.seal.ensures.holds c.seal.ensures.state
