use Rattle.std.proofs.Common.{◌≡◌, ◌∙◌, ℕ, ◌+◌, ◌*◌, ◌≤◌, List, length, take, drop, ap, sym, arith, length-take}
use Rattle.cm_keys_made.specs.Texts.{made_text}
use Rattle.cm_keys_made.proofs.TextLemmas.{length-text, read_gives}
use Rattle.cm_keys_made.proofs.made_keys.MadeKeysSource.read.Goals as goal

pub returns-clause-gives : goal.returns-clause-gives
returns-clause-gives c = λ bytes is.
    let keys = c.self.inside.keys in
    let place = c.self.inside.place in
    let n = c.min-n.result in
    let at : place ≡ c.args.self.now.place = cc in
    let same : keys ≡ c.args.self.now.keys = cc in
    let given : made_text c.args.self.now.keys ≡ bytes = cc in
    let text : made_text keys ≡ bytes = ap made_text same ∙ given in
    let len : length bytes ≡ 15 * keys = ap length (sym text) ∙ length-text keys in
    let size : length (take n c.args.buf.now) ≡ n = omega (arith, length-take n c.args.buf.now, c.min-n.ensures) in
    let all : place + length (take n c.args.buf.now) ≤ 15 * keys = omega (arith, size, c.min-n.ensures, c.self.invariant.inside) in
    let filled : c.fill.new.buf ≡ take n (drop place bytes) =
    c.fill.ensures keys all ∙ ap (λ (k : ℕ). take k (drop place (made_text keys))) size ∙ ap (λ (l : List ℕ). take n (drop place l)) text in
    let within : place ≤ length bytes = omega (arith, len, c.self.invariant.inside) in
    rw (filled, ← at) (read_gives bytes _ place n (length c.args.buf.now) within (omega (arith, c.min-n.ensures, len)))
