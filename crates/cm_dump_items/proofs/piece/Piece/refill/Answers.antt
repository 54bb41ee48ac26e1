use Rattle.std.proofs.Common.{◌≡◌, ◌∙◌, List, ℕ, length, ap, sym, subst, arith}
use Rattle.std.proofs.lemmas.List.{with_items_is}
use Rattle.cm_dump_items.specs.Unreads.{IsNext, unread_of}
use Rattle.cm_dump_items.proofs.PieceLemmas.{next_filled, next_kept, unread_len}
use Rattle.cm_dump_items.proofs.piece.Piece.refill.Goals as goal

pub refilled-requires-clause-at : goal.refilled-requires-clause-at
refilled-requires-clause-at g c = λ x is.
    let p = c.self.inside in
    let next = subst (IsNext x (g.S.Source.place c.args.source.now) c.args.at) (sym c.self.view_is) (c.requires.next x is) in
    let size = unread_len p.buf.items p.from p.until c.self.invariant.0 (omega (arith, c.self.invariant.1, c.self.invariant.2)) in
    let long = ap length c.deref_mut.ensures.value in
    (omega (arith, next.moved, size, long, c.if-self-lt-PIECE.false, c.self.invariant), omega (arith, next.moved, next.inside, size, long, c.if-self-lt-PIECE.false, c.self.invariant))

pub refilled-requires-clause-kept : goal.refilled-requires-clause-kept
refilled-requires-clause-kept g c = λ x is.
    let p = c.self.inside in
    let next = subst (IsNext x (g.S.Source.place c.args.source.now) c.args.at) (sym c.self.view_is) (c.requires.next x is) in
    rw c.deref_mut.ensures.value (next_kept x p.buf.items (g.S.Source.place c.args.source.now) c.args.at p.from p.until c.self.invariant.0 (omega (arith, c.if-self-lt-PIECE.false, c.self.invariant)) next)

pub returns-in-Ok-clause-next : goal.returns-in-Ok-clause-next
returns-in-Ok-clause-next g c = λ x is.
    let p = c.self.inside in
    let new = c.refilled.new.buf in
    let long : length new ≡ p.buf.len = omega (arith, c.refilled.auto.buf, ap length c.deref_mut.ensures.value, p.buf.ok.0) in
    let at = c.in-Ok.ensures.at x (c.in-Ok.ensures.told ∙ is) in
    let next = next_filled x new _ c.args.at c.in-Ok.until (omega (arith, c.in-Ok.ensures.inside, c.refilled.auto.buf)) (c.in-Ok.ensures.fills x is) at.0 (omega (arith, at.0, at.1)) in
    subst (λ (l : List ℕ). IsNext x (g.S.Source.place c.refilled.new.source) c.args.at (unread_of l 0 c.in-Ok.until)) (sym (with_items_is p.buf new long)) next
