use Rattle.std.proofs.Common.{◌≡◌, ◌∙◌, ◌-◌, length, take, drop, ap, arith}
use Rattle.cm_dump_items.proofs.PieceLemmas.{filled_more, moved_front}
use Rattle.cm_dump_items.proofs.piece.refilled.Goals as goal

pub returns-in-Ok-clause-at : goal.returns-in-Ok-clause-at
returns-in-Ok-clause-at g c = λ x is. let at = c.in-Ok.ensures.at x is in (omega (arith, at.0), omega (arith, at.1))

pub returns-in-Ok-clause-fills : goal.returns-in-Ok-clause-fills
returns-in-Ok-clause-fills g c = λ x is.
    let buf = c.args.buf.now in
    let mid = c.copy_within.new.self in
    let kept = length buf - c.args.from in
    let long : length mid ≡ length buf = c.copy_within.ensures.len in
    let front : take kept mid ≡ drop c.args.from buf = ap (λ l. take kept l) c.copy_within.ensures.after ∙ moved_front buf c.args.from c.requires.inside in
    let same : take kept mid ≡ take kept (drop c.args.at x) = front ∙ c.requires.kept x is in
    filled_more x mid c.fill.new.buf c.args.at kept c.in-Ok.got same (omega (arith, long)) c.fill.auto.buf (c.in-Ok.ensures.fills x is) (omega (arith, c.in-Ok.ensures.inside, c.fill.auto.buf))
