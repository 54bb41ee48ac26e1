use Rattle.std.proofs.Common.{rules, ◌≡◌, ◌∙◌, ℕ, ◌+◌, ◌<◌, List, ◌∷◌, length, map, take, drop, ap, sym, arith}
use Rattle.cm_store_records.proofs.PassLemmas.{gave_next, gives_next, none_left, told_next}
use Rattle.cm_store_records.specs.PassLaws.{keyed_lines, next_record}
use Rattle.cm_store_records.specs.RecordPass.{RecordPass, keyed, line_before}
use Rattle.cm_store_records.proofs.keys.RecordKeysKeyPass.next.Goals as goal

pub returns-then-self-clause-gives : goal.returns-then-self-clause-gives
returns-then-self-clause-gives c told known =
    let s = c.self.inside in
    none_left c.args.self.now s.lines.now s.bytes.now s.given told c.self.view_is c.self.invariant.records c.if-self.true known

more : (c : goal.After-self-2-1) → c.self.inside.given < length c.self.inside.lines.now
more c = omega (arith, c.if-self.false, c.self.invariant.within)

pub invariant_of-self : goal.invariant_of-self
invariant_of-self c =
    let s = c.self.inside in
    (next_record s.lines.now s.bytes.now s.given s.at _ c.self.invariant (more c) c.in-Some.ensures.some).later

-- the key of the record is the next one
next : (c : goal.After-self-2-1) → (let s = c.self.inside in drop s.given (keyed s.lines.now s.bytes.now) ≡ (line_before (map (λ (key : ℕ × List ℕ). key.0) (keyed s.lines.now s.bytes.now)) (s.given + 1), c.try_extend_from_slice.new.self.items) ∷ drop (s.given + 1) (keyed s.lines.now s.bytes.now))
next c =
    let s = c.self.inside in
    let line_is = ap (λ (lines : List ℕ). line_before lines (s.given + 1)) (keyed_lines s.lines.now s.bytes.now c.self.invariant.records) in
    let key_is : c.try_extend_from_slice.new.self.items ≡ c.in-Some.record.key.now = search rules in
    gives_next s.lines.now s.bytes.now s.given s.at _ c.self.invariant (more c) c.in-Some.ensures.some _ _ line_is key_is

pub returns-clause-gives : goal.returns-clause-gives
returns-clause-gives c told known =
    let s = c.self.inside in
    told_next c.args.self.now s.lines.now s.bytes.now s.given _ _ told c.self.view_is (next c) known

pub returns-clause-gave : goal.returns-clause-gave
returns-clause-gave c keys gave =
    let s = c.self.inside in
    let shown : keys ≡ take s.given (keyed s.lines.now s.bytes.now) = gave ∙ ap (λ (p : RecordPass). take p.given p.keys) (sym c.self.view_is) in
    gave_next (keyed s.lines.now s.bytes.now) keys s.given _ shown (next c)
