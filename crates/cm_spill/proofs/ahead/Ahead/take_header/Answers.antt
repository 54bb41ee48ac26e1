use Rattle.std.proofs.Common.{◌∙◌, ◌+◌, ◌-◌, ◌≤◌, ◌++◌, ap, arith, subst, sym, drop, take, length, List, ℕ}
use Rattle.cm_spill.specs.Reading.{IsAhead, Position}
use Rattle.cm_spill.proofs.Pieces.{ahead_moved, length-ready, rest_ready}
use Rattle.cm_spill.proofs.ahead.Ahead.take_header.Goals as goal

pub returns-then-self-ge-HEADER-clause-ahead : goal.returns-then-self-ge-HEADER-clause-ahead
returns-then-self-ge-HEADER-clause-ahead g c = λ x told ahead.
    let self = c.self.inside in
    let piece = self.piece.items in
    let ready : List ℕ = take (self.until - self.from) (drop self.from piece) in
    let was : IsAhead x (record { at = self.at; ready = ready; room = length piece }) = subst (λ (p : Position). IsAhead x p) (sym c.self.view_is) ahead in
    let enough : self.from + 10 ≤ self.until = omega (arith, c.if-self-ge-HEADER.true, c.self.invariant.0) in
    let long = length-ready piece self.from self.until c.self.invariant.0 c.self.invariant.1 in
    (was.0, ahead_moved x ready was.0 self.at 10 (omega (arith, long, enough)) was.1 ∙ ap (λ (b : List ℕ). b ++ was.0) (sym (rest_ready piece self.from self.until 10 enough)))
