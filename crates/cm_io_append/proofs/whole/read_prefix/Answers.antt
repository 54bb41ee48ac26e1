use Rattle.std.proofs.Common.{◌∙◌, ◌++◌, ◌≡◌, List, ℕ, ap, arith, sym, take, length}
use Rattle.std.proofs.lemmas.List.{take_at}
use Rattle.cm_io_append.proofs.whole.read_prefix.Goals as goal

-- the loop ended, as there are as many bytes as the limit
pub returns-clause-prefix : goal.returns-clause-prefix
returns-clause-prefix g c = λ x is.
    let inv = c.loop-chunk.invariant in
    let bytes = c.loop-chunk.bytes.items in
    let limit = c.args.limit in
    let whole = inv.so_far x (inv.same ∙ is) in
    let full : length bytes ≡ limit = omega (arith, inv.few, c.loop-chunk-test.false) in
    sym (ap (λ (l : List ℕ). take limit l) whole ∙ take_at bytes _ limit full)
