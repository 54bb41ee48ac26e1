use Rattle.std.proofs.Common.{◌≡◌, ◌+◌, length, drop, ap, subst, arith}
use Rattle.cm_dump_items.specs.Unreads.{Unread, unread_of}
use Rattle.cm_dump_items.proofs.PieceLemmas.{unread_len, unread_skip}
use Rattle.cm_dump_items.proofs.piece.Piece.skip.Goals as goal

pub returns : goal.returns
returns c =
    let p = c.self.inside in
    let long = ap (λ (u : Unread). length u.rest) c.self.view_is in
    let size = unread_len p.buf.items p.from p.until c.self.invariant.0 (omega (arith, c.self.invariant)) in
    record {
      rest = subst (λ (u : Unread). unread_of p.buf.items (p.from + c.args.n) p.until ≡ record { rest = drop c.args.n u.rest; more = u.more }) c.self.view_is (unread_skip p.buf.items p.from p.until c.args.n (omega (arith, c.requires.inside, long, size)));
    }
