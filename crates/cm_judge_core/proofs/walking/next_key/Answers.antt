use Rattle.std.proofs.Common.{ℕ, List, ap, ◌∙◌, sym}
use Rattle.cm_judge_core.proofs.Passing.{hashed_found, hashed_not_found}
use Rattle.cm_judge_core.proofs.walking.next_key.Goals as goal
use Rattle.cm_spec.specs.Lookup2.{words}

pub returns-then-listed-clause-gives : goal.returns-then-listed-clause-gives
returns-then-listed-clause-gives g c = (
  c.read_key.new.key.items,
  hashed_found c.args.edges.now c.args.sizes.seed c.in_ok-line.line _ _ (sym c.find_line-place.ensures.found ∙ c.if-listed.true) (c.words.ensures.words ∙ ap (λ (k : List ℕ). words k c.args.sizes.seed) c.as_slice.ensures.value),
  c.in_ok-line.ensures.gives,
)

pub returns-else-listed-clause-gives : goal.returns-else-listed-clause-gives
returns-else-listed-clause-gives g c = (
  c.read_key.new.key.items,
  hashed_not_found c.args.edges.now c.args.sizes.seed c.in_ok-line.line _ (sym c.find_line-place.ensures.found ∙ c.if-listed.false),
  c.in_ok-line.ensures.gives,
)
