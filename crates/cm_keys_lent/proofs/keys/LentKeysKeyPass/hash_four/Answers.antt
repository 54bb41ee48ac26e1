use Rattle.std.proofs.Common.{◌≡◌, ◌≤◌, ◌+◌, ◌∷◌, [], List, ℕ, length, map, arith}
use Rattle.cm_keys_lent.proofs.LentLemmas.{AreFour, four_of, four_words, gave_four, passes, told_four}
use Rattle.cm_keys_lent.proofs.keys.LentKeysKeyPass.hash_four.Goals as goal
use Rattle.cm_spec.specs.Lookup2.{words}

more : (c : goal.After-at-4) → c.self.inside.given + 4 ≤ length c.self.inside.ends.now
more c = omega (arith, c.if-ends-i-lt4.false, c.self.invariant.within)

-- what is returned are the hash values of the next four keys
hashed : (c : goal.After-at-4) → (let s = c.self.inside in let four : List (List ℕ) = c.at.result ∷ c.at-2.result ∷ c.at-3.result ∷ c.at-4.result ∷ [] in four ≡ map (λ k. words k.1 c.args.seed) (four_of s.bytes.now s.ends.now s.given))
hashed c =
    let s = c.self.inside in
    let keys : AreFour s.bytes.now s.ends.now s.given c.key_at.result.now c.key_at-2.result.now c.key_at-3.result.now c.key_at-4.result.now = record { p_is = c.key_at.ensures.key; q_is = c.key_at-2.ensures.key; r_is = c.key_at-3.ensures.key; t_is = c.key_at-4.ensures.key } in
    four_words s.bytes.now s.ends.now s.given c.args.seed _ _ _ _ _ _ _ _ _ keys c.words_of_four-four.ensures.words c.at.ensures.words c.at-2.ensures.words c.at-3.ensures.words c.at-4.ensures.words

pub returns-clause-gives : goal.returns-clause-gives
returns-clause-gives c told known =
    let s = c.self.inside in
    told_four c.args.self.now s.bytes.now s.ends.now s.given c.args.seed _ told c.self.view_is (more c) (hashed c) known

pub returns-clause-gave : goal.returns-clause-gave
returns-clause-gave c keys gave =
    let s = c.self.inside in
    (four_of s.bytes.now s.ends.now s.given, hashed c, gave_four c.args.self.now s.bytes.now s.ends.now s.given keys c.self.view_is (more c) gave)

pub returns-clause-line : goal.returns-clause-line
returns-clause-line c told known =
    let s = c.self.inside in
    passes c.args.self.now s.bytes.now s.ends.now s.given (s.given + 4) told c.self.view_is (omega arith) (more c) known
