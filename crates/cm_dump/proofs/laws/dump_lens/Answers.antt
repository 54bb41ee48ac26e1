use Rattle.std.proofs.Common.{◌≡◌, ◌∙◌, ℕ, ◌+◌, ◌*◌, ◌^◌, length, ap, refl}
use Rattle.std.specs.Int.{div_ceil}
use Rattle.cm_rank.specs.RankLaws.{length-samples}
use Rattle.cm_rank.specs.Ranks.{sampled}
use Rattle.cm_spec.specs.Image.{packed_len}
use Rattle.cm_dump.proofs.DumpLemmas.{bdz_ph_written_len, bdz_written_len, chm_written_len}
use Rattle.cm_dump.proofs.laws.dump_lens.Goals as goal

pub returns-clause-chm : goal.returns-clause-chm
returns-clause-chm c = λ f. chm_written_len f

pub returns-clause-bdz : goal.returns-clause-bdz
returns-clause-bdz c = λ f.
    let ranks : length (sampled 3 f.shift f.cells) ≡ div_ceil (length f.cells) (2 ^ f.shift) = length-samples (record { idle = 3; shift = f.shift; ranks = sampled 3 f.shift f.cells }) f.cells refl in
    bdz_written_len f ∙ ap (λ (n : ℕ). 24 + packed_len 4 (length f.cells) + 4 * n) ranks

pub returns-clause-bdz_ph : goal.returns-clause-bdz_ph
returns-clause-bdz_ph c = λ f. bdz_ph_written_len f
