use Rattle.std.proofs.Common.{◌≡◌, ◌∙◌, ◌+◌, ◌-◌, ◌≤◌, ◌++◌, ap, arith, subst, sym, drop, take, length, length-append, length-take-le, List, ℕ}
use Rattle.cm_spill.specs.Reading.{IsAhead, Position}
use Rattle.cm_spill.proofs.Pieces.{ahead_moved, first_ready, from_ok, length-ready, order_more, order_taken, rest_ready, taken_more}
use Rattle.cm_spill.proofs.ahead.Ahead.take.Goals as goal

pub pieces-preserved : goal.pieces-preserved
pieces-preserved g c =
    let self = c.self.inside in
    let piece = self.piece.items in
    let n = c.min-n.result in
    let before = c.pieces.invariant in
    let refilled = c.in_ok-refill.ensures in
    let ready : List ℕ = take (self.until - self.from) (drop self.from piece) in
    let inside : self.from + n ≤ self.until = omega (arith, c.min-n.ensures, c.self.invariant.0) in
    let few : n ≤ length ready = omega (arith, inside, length-ready piece self.from self.until c.self.invariant.0 c.self.invariant.1) in
    let part = from_ok _ (sym c.is_err.ensures.value ∙ c.if-is_err.false) c.try_extend_from_slice.ensures.ok ∙ ap (λ (b : List ℕ). c.pieces.buf.items ++ take (self.from + n - self.from) (drop self.from b)) c.deref.ensures.value ∙ ap (λ (b : List ℕ). c.pieces.buf.items ++ b) (first_ready piece self.from self.until n inside) in
    let long : length c.try_extend_from_slice.new.self.items ≡ length c.pieces.buf.items + n = omega (arith, ap length part, length-append c.pieces.buf.items (take n ready), length-take-le n ready few) in
    record {
      same = refilled.told ∙ before.same;
      quiet = refilled.cause.fine ∙ before.quiet;
      room = ap (λ (p : Position). p.room) c.self.view_is ∙ refilled.room ∙ before.room;
      at = omega (arith, ap (λ (p : Position). p.at) c.self.view_is, refilled.at, before.at, long);
      few = omega (arith, c.pieces-test.true, c.min-n.ensures, long, c.len-in-pieces.ensures.value);
      order =
          let all = order_more c.args.self.now.ready before.order.0 c.pieces.buf.items c.pieces.self.ready ready before.order.1 (λ some. ap (λ (p : Position). p.ready) (c.self.view_is ∙ refilled.kept some)) in (
            all.0,
            order_taken _ c.pieces.buf.items ready n all.1
                ∙ ap (λ (b : List ℕ). b ++ drop n ready) (sym part)
                ∙ ap (λ (b : List ℕ). c.try_extend_from_slice.new.self.items ++ b) (sym (rest_ready piece self.from self.until n inside)),
          );
      bytes = λ x told ahead.
          let was = before.bytes x told ahead in
          let first = refilled.ahead x (before.same ∙ told) was.0 in
          let now : IsAhead x (record { at = self.at; ready = ready; room = length piece }) = subst (λ (p : Position). IsAhead x p) (sym c.self.view_is) first in
          let place : c.pieces.self.at ≡ self.at = sym refilled.at ∙ ap (λ (p : Position). p.at) (sym c.self.view_is) in
          let whole = was.1 ∙ ap (λ (i : ℕ). c.pieces.buf.items ++ drop i x) place in (
            (now.0, ahead_moved x ready now.0 self.at n few now.1 ∙ ap (λ (b : List ℕ). b ++ now.0) (sym (rest_ready piece self.from self.until n inside))),
            taken_more x ready now.0 c.pieces.buf.items c.args.self.now.at self.at n few now.1 whole ∙ ap (λ (b : List ℕ). b ++ drop (self.at + n) x) (sym part),
          );
    }
