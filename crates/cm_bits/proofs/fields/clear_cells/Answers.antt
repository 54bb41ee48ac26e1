use Rattle.std.proofs.Common.{arith, sym, nat_le}
use Rattle.cm_bits.proofs.FaultLemmas.{found, not_found}
use Rattle.cm_bits.proofs.ClearLemmas.{clear_cell}
use Rattle.cm_bits.proofs.fields.clear_cells.Goals as goal
use Rattle.cm_bits.proofs.fields.clear_cells.Goals.{in-Some, in-None}

pub returns : goal.returns
returns c = elim c.match-first_byte_from.branch [
  | in-Some w ↦
      let both = found (λ b. nat_le 1 b) c.args.bytes.now w.in-Some.place (sym w.in-Some.ensures) in
      λ k l. clear_cell c.args.width c.args.bytes.now c.match-first_byte_from.zeros k c.requires.some (omega (arith, both.1)) (omega (arith, both.0)) l
  | in-None w ↦
      let all = not_found (λ b. nat_le 1 b) c.args.bytes.now (sym w.in-None.ensures) in
      λ k l. clear_cell c.args.width c.args.bytes.now c.match-first_byte_from.zeros k c.requires.some (omega arith) (omega (arith, all)) l
]
