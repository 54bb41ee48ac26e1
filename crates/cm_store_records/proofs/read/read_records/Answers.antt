use Rattle.std.proofs.Common.{rules, ◌≡◌, ◌∙◌, ◌+◌, ◌≤◌, ◌∷◌, ◌++◌, [], ℕ, length, length-append, ap, sym, subst, arith, Bool, true, if◌then◌else◌, Ok}
use Rattle.cm_io.specs.Passes.{GivesKey}
use Rattle.cm_store_records.proofs.PutLemmas.{last_line}
use Rattle.cm_store_records.proofs.ReadLemmas.{HoldsFirst, holds_added}
use Rattle.cm_store_records.proofs.read.read_records.Goals as goal
use Rattle.cm_store_records.specs.Records.{Record, record_of}

pub lines-preserved : goal.lines-preserved
lines-preserved g c =
    let P = g.P.KeyPass in
    let inv = c.lines.invariant in
    let next = c.in-Ok-true.ensures in
    let is : c.in-Ok-true.field-0 ≡ true = c.in-Ok-true.field-0-test in
    let old = c.lines.records in
    let new = c.push.new.self in
    let line = c.line-in-lines.ensures.last in
    let up : P.place c.next.new.self ≡ P.place c.lines.lines + 1 = next.counts ∙ ap (λ (b : Bool). P.place c.lines.lines + (if b then 1 else 0)) is in
    let lines : new.lines ≡ old.lines ++ P.last c.next.new.self ∷ [] = c.in-Ok.ensures.lines ∙ ap (λ (n : ℕ). old.lines ++ n ∷ []) line in
    let now : P.place c.next.new.self ≡ length new.lines = omega (arith, up, inv.at, ap length lines, length-append old.lines (P.last c.next.new.self ∷ [])) in
    let short : length c.split-parts.result.key.now + length c.split-parts.result.value.now ≤ 65535 = search rules in
    let r : Record = record { key = c.split-parts.result.key.now; value = c.split-parts.result.value.now } in
    record {
      ready = search rules;
      same = search rules;
      quiet = search rules;
      at = now;
      few = omega (arith, now, next.few);
      last = omega (arith, last_line old.lines new.lines _ lines);
      holds = λ told known.
          let text = c.next.new.key.items in
          let gives = subst (λ (b : Bool). GivesKey told (P.place c.lines.lines) (P.place c.next.new.self) (P.last c.next.new.self) text (Ok b)) is (next.gives told (inv.same ∙ known)) in
          subst (λ (n : ℕ). HoldsFirst told n new) now (holds_added told (P.place c.lines.lines) (P.place c.next.new.self) (P.last c.next.new.self) text r old new (c.split-parts.ensures.record ∙ ap record_of c.as_slice.ensures.value) (subst (λ (n : ℕ). HoldsFirst told n old) (sym inv.at) (inv.holds told known)) gives up (omega (arith, c.if-size.false, c.size.ensures.size, c.size.ensures.few)) (omega (arith, short), omega (arith, short)) c.in-Ok.ensures.bytes lines);
    }
