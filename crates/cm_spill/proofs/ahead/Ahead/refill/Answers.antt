use Rattle.std.proofs.Common.{◌∙◌, ◌+◌, ◌++◌, ap, sym, drop, length, List, ℕ}
use Rattle.cm_spill.proofs.Pieces.{piece_read}
use Rattle.cm_spill.proofs.ahead.Ahead.refill.Goals as goal

pub returns-clause-ahead : goal.returns-clause-ahead
returns-clause-ahead g c = λ x told ahead.
    let piece = c.self.inside.piece in
    let buf = c.read_at.new.buf in
    let n = c.in_ok-n.n in
    let gives = c.in_ok-n.ensures.gives x told in
    let rest : List ℕ = drop (c.self.inside.at + n) x in
    let same = c.read_at.auto.buf ∙ ap length c.deref_mut.ensures.value in
    (rest, gives.given ∙ ap (λ (b : List ℕ). b ++ rest) (sym (piece_read n piece.len buf piece.items piece.ok.0 same)))
