use Rattle.std.proofs.Common.{◌≡◌, ◌∙◌, ℕ, ◌+◌, ◌<◌, List, [], length, ap, sym}
use Rattle.std.specs.Prelude.{slice_index_or}
use Rattle.cm_store_records.proofs.PassLemmas.{gives_next, key_left, stands_next, told_next}
use Rattle.cm_store_records.specs.PassLaws.{keyed_lines, next_record}
use Rattle.cm_store_records.specs.RecordPass.{RecordPass, line_before}
use Rattle.cm_store_records.proofs.keys.RecordKeysKeyPass.pass.Goals as goal

more : (c : goal.After-self-2-1) → c.self.inside.given < length c.self.inside.lines.now
more c =
    let s = c.self.inside in
    key_left c.args.self.now s.lines.now s.bytes.now s.given c.self.view_is c.self.invariant.records c.requires.stands.1.0

pub invariant_of-self : goal.invariant_of-self
invariant_of-self c =
    let s = c.self.inside in
    (next_record s.lines.now s.bytes.now s.given s.at _ c.self.invariant (more c) c.in-Some.ensures.some).later

pub returns-clause-gives : goal.returns-clause-gives
returns-clause-gives c key stands long told known =
    let s = c.self.inside in
    let there = stands_next s.lines.now s.bytes.now s.given s.at _ c.self.invariant (more c) c.in-Some.ensures.some in
    let key_is : key ≡ c.in-Some.record.key.now = stands.1 ∙ ap (λ (p : RecordPass). (slice_index_or p.keys p.given (0, [])).1) (sym c.self.view_is) ∙ sym there in
    let line_is = ap (λ (lines : List ℕ). line_before lines (s.given + 1)) (keyed_lines s.lines.now s.bytes.now c.self.invariant.records) in
    let next = gives_next s.lines.now s.bytes.now s.given s.at _ c.self.invariant (more c) c.in-Some.ensures.some _ _ line_is key_is in
    told_next c.args.self.now s.lines.now s.bytes.now s.given _ _ told c.self.view_is next known
