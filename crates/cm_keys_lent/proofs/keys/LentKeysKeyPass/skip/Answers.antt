use Rattle.std.proofs.Common.{arith}
use Rattle.cm_keys_lent.proofs.LentLemmas.{gave_all, passes}
use Rattle.cm_keys_lent.proofs.keys.LentKeysKeyPass.skip.Goals as goal

pub returns-clause-gives : goal.returns-clause-gives
returns-clause-gives c some told known =
    let s = c.self.inside in
    passes c.args.self.now s.bytes.now s.ends.now s.given _ told c.self.view_is (omega (arith, some)) (omega arith) known

pub returns-clause-gave : goal.returns-clause-gave
returns-clause-gave c keys gave =
    let s = c.self.inside in
    gave_all c.args.self.now s.bytes.now s.ends.now s.given keys c.self.view_is c.self.invariant.within gave
