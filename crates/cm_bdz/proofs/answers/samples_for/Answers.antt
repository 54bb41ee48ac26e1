use Rattle.std.proofs.Common.{◌≡◌, ◌∙◌, ◌+◌, ◌<◌, ℕ, List, length, slice_index, inl, inr, arith, ap, sym}
use Rattle.std.specs.Prelude.{slice_set}
use Rattle.std.proofs.Math.ListN.{length-set}
use Rattle.std.proofs.lemmas.Bool.{cases_eq}
use Rattle.std.proofs.lemmas.List.{get_or-set_other, get_or-set_same}
use Rattle.cm_bdz.proofs.answers.samples_for.Goals as goal

-- one sample more
sample_more : (want : ℕ → ℕ) (samples : List ℕ) (i sample : ℕ) → i < length samples → sample ≡ want i → ((j : ℕ) → j < i → slice_index samples j ≡ want j) → (j : ℕ) → j < i + 1 → slice_index (slice_set samples i sample) j ≡ want j
sample_more want samples i sample inside is before j l = elim (cases_eq j i) [
  | inl same ↦ ap (slice_index (slice_set samples i sample)) same ∙ get_or-set_same samples i sample 0 inside ∙ is ∙ ap want (sym same)
  | inr other ↦ get_or-set_other samples i j sample 0 other ∙ before j (omega (arith, l, other))
]

pub loop-i-preserved : goal.loop-i-preserved
loop-i-preserved c =
    let inv = c.loop-i.invariant in
    record {
      room = length-set c.loop-i.samples c.loop-i.i c.sample_for.result ∙ inv.room;
      are = sample_more _ c.loop-i.samples c.loop-i.i c.sample_for.result (omega (arith, inv.room, c.loop-i-test.true, c.requires.few)) c.sample_for.ensures.sample inv.are;
    }
