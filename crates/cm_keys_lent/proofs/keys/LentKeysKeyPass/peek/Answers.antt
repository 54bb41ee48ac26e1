use Rattle.std.proofs.Common.{◌≡◌, ◌+◌, ap, sym, arith}
use Rattle.cm_keys_lent.proofs.LentLemmas.{told_next}
use Rattle.cm_keys_lent.proofs.keys.LentKeysKeyPass.peek.Goals as goal
use Rattle.cm_keys_lent.specs.Pass.{LentPass}

pub returns-clause-gives : goal.returns-clause-gives
returns-clause-gives c told known =
    let s = c.self.inside in
    let up : c.args.self.now.given + 1 ≡ s.given + 1 = ap (λ (p : LentPass). p.given + 1) (sym c.self.view_is) in
    rw up (told_next c.args.self.now s.bytes.now s.ends.now s.given _ told c.self.view_is (omega (arith, c.if-self.false, c.self.invariant.within)) c.key_at.ensures.key known)
