use Rattle.std.proofs.Common.{◌*◌, ◌/◌, ◌^◌, ◌∙◌, length, arith, ap}
use Rattle.cm_witness_gather.specs.Candidates.{word_of}
use Rattle.cm_witness_gather.specs.Tables.{Tabled}
use Rattle.cm_witness_gather.proofs.table.Table.slot.Goals as goal

pub returns-clause-slot : goal.returns-clause-slot
unfolding word_of
returns-clause-slot c =
    ap (λ n. n / 2 ^ 32 * c.len-slots.result / 2 ^ 32) c.mix_bytes.ensures
    ∙ ap (λ n. word_of n c.args.key.now) (omega (arith, c.self.inside.slots.ok.0))
    ∙ ap (λ (t : Tabled). word_of (length t.slots) c.args.key.now) c.self.view_is
