use Rattle.std.proofs.Common.{◌∙◌, ℕ, ◌<◌, Fits, w8, get_or, ap, arith}
use Rattle.std.specs.Prelude.{count_by}
use Rattle.cm_rank.proofs.WordLemmas.{crumbs_of_bytes, pairs}
use Rattle.cm_spec.specs.Cells.{is_busy}
use Rattle.cm_rank.proofs.words.busy_at.Goals as goal

pub returns-clause-busy : goal.returns-clause-busy
returns-clause-busy c =
    let small : (k : ℕ) → get_or c.args.bytes.now k 0 < 256 = λ k. (let fits : Fits w8 (get_or c.args.bytes.now k 0) = c.type_inv.bytes k in omega (arith, fits)) in
    c.busy_pairs.ensures ∙ rw c.window.ensures (ap (count_by (is_busy 3)) (crumbs_of_bytes c.args.bytes.now c.args.at c.args.many small c.requires.fit))

pub returns-clause-few : goal.returns-clause-few
returns-clause-few c = omega (arith, pairs c.window.result c.args.many, c.busy_pairs.ensures)
