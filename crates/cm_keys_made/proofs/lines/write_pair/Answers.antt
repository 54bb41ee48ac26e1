use Rattle.std.proofs.Common.{◌≡◌, ◌∙◌, ℕ, ◌+◌, ◌<◌, List, [], ◌∷◌, ◌++◌, length, take, set, ap, sym, arith, append_assoc, length-set}
use Rattle.std.proofs.lemmas.List.{drop-set-lt, take_more_set}
use Rattle.cm_keys_made.specs.Texts.{digit_at}
use Rattle.cm_keys_made.proofs.DigitLemmas.{pair_is}
use Rattle.cm_keys_made.proofs.lines.write_pair.Goals as goal

pub returns-clause-written : goal.returns-clause-written
returns-clause-written c =
    let at = c.args.at in
    let buf = c.args.buf.now in
    let tens = digit_at c.args.n 1 in
    let ones = digit_at c.args.n 0 in
    let is = pair_is c.args.n c.requires.digits in
    let first : at < length buf = omega (arith, c.requires.room) in
    let second : at + 1 < length (set buf at tens) = omega (arith, c.requires.room, length-set buf at tens) in
    let two : at + 1 + 1 ≡ at + 2 = omega arith in
    let written : take (at + 2) (set (set buf at tens) (at + 1) ones) ≡ take at buf ++ tens ∷ ones ∷ [] =
    ap (λ (k : ℕ). take k (set (set buf at tens) (at + 1) ones)) (sym two)
    ∙ take_more_set (set buf at tens) (at + 1) ones second
    ∙ ap (λ (l : List ℕ). l ++ ones ∷ []) (take_more_set buf at tens first)
    ∙ append_assoc (take at buf) (tens ∷ []) (ones ∷ []) in
    rw (is.0, is.1) written

pub returns-clause-after : goal.returns-clause-after
returns-clause-after c =
    drop-set-lt (c.args.at + 2) _ (c.args.at + 1) _ (omega arith) ∙ drop-set-lt (c.args.at + 2) _ c.args.at _ (omega arith)
