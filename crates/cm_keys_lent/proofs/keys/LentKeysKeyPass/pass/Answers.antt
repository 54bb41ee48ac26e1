use Rattle.std.proofs.Common.{◌≡◌, ◌<◌, ℕ, List, length, sym, subst}
use Rattle.cm_keys_lent.proofs.LentLemmas.{gave_next, told_next}
use Rattle.cm_keys_lent.proofs.keys.LentKeysKeyPass.pass.Goals as goal
use Rattle.cm_keys_lent.specs.Ends.{key_in}
use Rattle.cm_keys_lent.specs.Pass.{LentPass}

-- the next key stands there, as the pass itself has it
next : (v s : LentPass) (key : List ℕ) → s ≡ v → (v.given < length v.ends) × (key ≡ key_in v.bytes v.ends v.given) → (s.given < length s.ends) × (key ≡ key_in s.bytes s.ends s.given)
next v s key shows stands = subst (λ (p : LentPass). (p.given < length p.ends) × (key ≡ key_in p.bytes p.ends p.given)) (sym shows) stands

pub returns-clause-gives : goal.returns-clause-gives
returns-clause-gives c key stands long told known =
    let s = c.self.inside in
    let n = next c.args.self.now _ key c.self.view_is stands in
    told_next c.args.self.now s.bytes.now s.ends.now s.given key told c.self.view_is n.0 n.1 known

pub returns-clause-gave : goal.returns-clause-gave
returns-clause-gave c keys key gave stands long =
    let s = c.self.inside in
    let n = next c.args.self.now _ key c.self.view_is stands in
    gave_next c.args.self.now s.bytes.now s.ends.now s.given key keys c.self.view_is n.0 n.1 gave
