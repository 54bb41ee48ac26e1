use Rattle.std.proofs.Common.{◌≡◌, ◌<◌, ◌/◌, ◌∙◌, ◌||◌, ℕ, List, Some, length, get_or, ap, arith}
use Rattle.std.specs.Prelude.{◌==◌}
use Rattle.std.proofs.lemmas.List.{get_or_default}
use Rattle.cm_shards_query.specs.Marks.{is_marked}
use Rattle.cm_shards_query.proofs.MarkLemmas.{mark_set}
use Rattle.cm_shards_query.proofs.marks.Marks.mark_number.Goals as goal

pub returns-clause-marked : goal.returns-clause-marked
returns-clause-marked c = λ w.
    let v = c.args.number in
    let words = c.self.inside.words.items in
    let same : words ≡ c.args.self.now = c.self.view_is in
    let inside : v / 64 < length words = omega (arith, c.requires.inside, ap length same) in
    let word : c.index-word.result.now ≡ get_or words (v / 64) 0 = c.index-word.ensures ∙ get_or_default words (v / 64) _ 0 inside in
    mark_set words c.index-word.result.now v w word inside ∙ ap (λ (l : List ℕ). is_marked l (Some w) || (v == w)) same
