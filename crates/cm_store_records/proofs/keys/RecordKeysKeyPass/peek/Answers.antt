use Rattle.std.proofs.Common.{◌≡◌, ◌+◌, ◌<◌, length, ap, refl, sym, arith}
use Rattle.cm_store_records.proofs.PassLemmas.{gives_next, stands_next, told_next}
use Rattle.cm_store_records.specs.PassLaws.{keyed_long, line_next}
use Rattle.cm_store_records.specs.RecordPass.{RecordPass}
use Rattle.cm_store_records.proofs.keys.RecordKeysKeyPass.peek.Goals as goal

more : (c : goal.After-result-2-1) → c.self.inside.given < length c.self.inside.lines.now
more c = omega (arith, c.if-self.false, c.self.invariant.within)

pub returns-clause-gives : goal.returns-clause-gives
returns-clause-gives c told known =
    let s = c.self.inside in
    let next = gives_next s.lines.now s.bytes.now s.given s.at _ c.self.invariant (more c) c.in-Some.ensures.some _ _ (line_next s.lines.now s.given) refl in
    let up : c.args.self.now.given + 1 ≡ s.given + 1 = ap (λ (p : RecordPass). p.given + 1) (sym c.self.view_is) in
    rw up (told_next c.args.self.now s.lines.now s.bytes.now s.given _ _ told c.self.view_is next known)

pub returns-clause-stands : goal.returns-clause-stands
returns-clause-stands c =
    let s = c.self.inside in
    rw (sym c.self.view_is) (
      omega (arith, more c, keyed_long s.lines.now s.bytes.now c.self.invariant.records),
      stands_next s.lines.now s.bytes.now s.given s.at _ c.self.invariant (more c) c.in-Some.ensures.some,
    )
