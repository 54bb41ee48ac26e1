use Rattle.std.proofs.Common.{sym, subst, arith}
use Rattle.cm_dump_items.specs.Unreads.{IsNext}
use Rattle.cm_dump_items.proofs.PieceLemmas.{unread_len}
use Rattle.cm_dump_items.proofs.piece.Piece.end.Goals as goal

pub end-requires : goal.end-requires
end-requires g c =
    let p = c.self.inside in
    let size = unread_len p.buf.items p.from p.until c.self.invariant.0 (omega (arith, c.self.invariant)) in
    record {
      at = λ x is.
          let next = subst (IsNext x (g.S.Source.place c.args.source.now) c.args.at) (sym c.self.view_is) (c.requires.next x is) in
          (omega (arith, next.moved, size, c.if-self.false), omega (arith, next.moved, next.inside, size, c.if-self.false));
    }
