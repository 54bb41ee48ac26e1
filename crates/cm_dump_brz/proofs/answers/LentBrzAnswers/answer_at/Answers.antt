use Rattle.std.proofs.Common.{◌≡◌, ◌∙◌, List, ℕ, ap, sym}
use Rattle.std.specs.Prelude.{slice_index, slice_index_or}
use Rattle.cm_brz_func.specs.Functions.{Bucket, answer_in}
use Rattle.cm_brz_func.specs.Places.{ends_in}
use Rattle.cm_dump_brz.specs.Indexed.{bucket_by, number_after}
use Rattle.cm_dump_brz.proofs.AnswerLemmas.{answer_is, place_ends, place_inside}
use Rattle.cm_dump_brz.proofs.answers.LentBrzAnswers.answer_at.Goals as goal
use Rattle.cm_dump_brz.proofs.answers.LentBrzAnswers.answer_at.Goals.{in-Some, in-None}

pub bucket-requires : goal.bucket-requires
bucket-requires c = record { inside = place_inside c.args.self.now c.requires.place.0 c.args.place.now c.keys-keys.ensures.some c.requires.place.1 }

pub before-requires : goal.before-requires
before-requires c = record { inside = place_inside c.args.self.now c.requires.place.0 c.args.place.now c.keys-keys.ensures.some c.requires.place.1 }

pub returns-clause-answer : goal.returns-clause-answer
returns-clause-answer c = λ key is.
    let f = c.args.self.now in
    let place : List ℕ = c.args.place.now in
    let b : Bucket = bucket_by f (slice_index f.index (slice_index_or place 3 0)) in
    let known : c.match-bucket.answer ≡ answer_in b key = elim c.match-bucket.branch [
      | in-Some w ↦
          let same = w.in-Some.ensures.bucket in
          w.answer-is ∙ (w.answer-answer.ensures.answer key (place_ends f key place is ∙ ap (λ (x : Bucket). ends_in x key) (sym same)) ∙ ap (λ (x : Bucket). answer_in x key) same)
      | in-None w ↦ w.answer-is ∙ ap (λ (x : Bucket). answer_in x key) (sym w.in-None.ensures.none)
    ] in
    c.number_after.ensures.number ∙ (ap (λ (k : ℕ). number_after k c.before-2.result c.match-bucket.answer) c.keys-keys.ensures.keys ∙ answer_is f key place c.before-2.result c.match-bucket.answer is c.before-2.ensures.before known)
