use Rattle.std.proofs.Common.{rules, ◌≡◌, ◌<◌, length, arith}
use Rattle.cm_keys_lent.proofs.LentLemmas.{gave_next, none_left, told_next}
use Rattle.cm_keys_lent.proofs.keys.LentKeysKeyPass.next.Goals as goal
use Rattle.cm_keys_lent.specs.Ends.{key_in}

pub returns-then-self-clause-gives : goal.returns-then-self-clause-gives
returns-then-self-clause-gives c told known =
    let s = c.self.inside in
    none_left c.args.self.now s.bytes.now s.ends.now s.given told c.self.view_is c.if-self.true known

more : (c : goal.After-self-1) → c.self.inside.given < length c.self.inside.ends.now
more c = omega (arith, c.if-self.false, c.self.invariant.within)

-- what was put into the buffer is the next key
key_is : (c : goal.After-self-1) → c.try_extend_from_slice.new.self.items ≡ key_in c.self.inside.bytes.now c.self.inside.ends.now c.self.inside.given
key_is c = search rules

pub returns-clause-gives : goal.returns-clause-gives
returns-clause-gives c told known =
    let s = c.self.inside in
    told_next c.args.self.now s.bytes.now s.ends.now s.given _ told c.self.view_is (more c) (key_is c) known

pub returns-clause-gave : goal.returns-clause-gave
returns-clause-gave c keys gave =
    let s = c.self.inside in
    gave_next c.args.self.now s.bytes.now s.ends.now s.given _ keys c.self.view_is (more c) (key_is c) gave
