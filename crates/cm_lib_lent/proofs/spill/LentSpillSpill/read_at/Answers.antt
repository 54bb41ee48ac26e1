use Rattle.std.proofs.Common.{◌≡◌, ◌∙◌, ap, drop, length, min, take, rules, List, ℕ}
use Rattle.cm_lib_lent.proofs.SpillLemmas.{gives_at}
use Rattle.cm_lib_lent.proofs.spill.LentSpillSpill.read_at.Goals as goal

-- what is left of the bytes that were appended
pub returns-clause-gives : goal.returns-clause-gives
returns-clause-gives c = λ bytes is.
    let rest : c.bytes_from-rest.result.now ≡ drop c.args.offset bytes = search rules in
    gives_at bytes c.copy_from_slice.new.self _ c.args.offset c.min-n.result _ (c.copy_from_slice.ensures.after ∙ ap (λ (l : List ℕ). take c.min-n.result l) rest) (c.min-n.ensures ∙ ap (λ (l : List ℕ). min (length l) (length c.args.buf.now)) rest)
