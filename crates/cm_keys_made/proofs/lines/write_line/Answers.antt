use Rattle.std.proofs.Common.{◌≡◌, ◌∙◌, ℕ, ◌+◌, ◌-◌, List, ◌++◌, take, drop, ap, arith}
use Rattle.cm_keys_made.proofs.lines.write_line.Goals as goal

pub returns-clause-bytes : goal.returns-clause-bytes
returns-clause-bytes c =
    let len = c.min-len.result in
    let many : c.args.skip + len - c.args.skip ≡ len = omega arith in
    ap (λ (l : List ℕ). l ++ drop len c.args.buf.now)
    (c.copy_from_slice.ensures.after
    ∙ ap (λ (k : ℕ). take k (drop c.args.skip c.write_whole-2.new.buf)) many
    ∙ ap (λ (l : List ℕ). take len (drop c.args.skip l)) c.write_whole-2.ensures)
