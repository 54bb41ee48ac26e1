use Rattle.std.proofs.Common.{◌≡◌, ◌∙◌, ◌++◌, ℕ, List, [], None, Some, Result, drop, ap, sym, subst}
use Rattle.cm_witness_report.specs.Lines.{lines_in}
use Rattle.cm_witness_report.specs.Parts.{head_at}
use Rattle.cm_witness_report.specs.Reading.{Tells, report_from, said_of}
use Rattle.cm_witness_report.specs.Reports.{Said}
use Rattle.cm_witness_report.specs.Windows.{TakesLine, waiting}
use Rattle.cm_witness_report.proofs.LaterLemmas.{IsBadAfter}
use Rattle.cm_witness_report.proofs.LoopLemmas.{report_none, report_some}
use Rattle.cm_witness_report.proofs.reading.read_report.Goals as goal

-- a source at its start, of which no byte was read
whole : (x w : List ℕ) (place : ℕ) → w ≡ [] → place ≡ 0 → w ++ drop place x ≡ x
whole x w place none start = ap (λ (l : List ℕ). l ++ drop place x) none ∙ ap (λ (k : ℕ). drop k x) start

pub returns-in-Ok-None-clause-exact : goal.returns-in-Ok-None-clause-exact
returns-in-Ok-None-clause-exact g c = λ x is.
    let w = c.new-window.result in
    let v = c.read_head.new.window in
    let old : List ℕ = waiting w.buf w.from w.until ++ drop (g.S.Source.place c.args.source.now) x in
    let new : List ℕ = waiting v.buf v.from v.until ++ drop (g.S.Source.place c.read_head.new.source) x in
    let all : old ≡ x = whole x (waiting w.buf w.from w.until) (g.S.Source.place c.args.source.now) c.new-window.ensures.none (c.requires.start x is) in
    let takes : TakesLine head_at old new None = subst (TakesLine head_at old new) c.in-Ok-None.field-0-is (c.in-Ok-None.ensures.takes x is) in
    ap (λ (l : List ℕ). report_from (lines_in l)) (sym all) ∙ report_none (lines_in old) takes

pub returns-in-Ok-Some-clause-exact : goal.returns-in-Ok-Some-clause-exact
returns-in-Ok-Some-clause-exact g c = λ x is.
    let w = c.new-window.result in
    let v = c.read_head.new.window in
    let old : List ℕ = waiting w.buf w.from w.until ++ drop (g.S.Source.place c.args.source.now) x in
    let new : List ℕ = waiting v.buf v.from v.until ++ drop (g.S.Source.place c.read_head.new.source) x in
    let all : old ≡ x = whole x (waiting w.buf w.from w.until) (g.S.Source.place c.args.source.now) c.new-window.ensures.none (c.requires.start x is) in
    let takes : TakesLine head_at old new (Some c.in-Ok-Some.head) = subst (TakesLine head_at old new) c.in-Ok-Some.field-0-is (c.in-Ok-Some.ensures.takes x is) in
    subst (λ (r : Result Said ℕ). Tells said_of c.read_rest.result r) (sym (ap (λ (l : List ℕ). report_from (lines_in l)) (sym all) ∙ report_some old new c.in-Ok-Some.head takes)) (c.read_rest.ensures.exact x (c.in-Ok-Some.ensures.told ∙ is))

pub returns-in-Ok-Some-clause-memory : goal.returns-in-Ok-Some-clause-memory
returns-in-Ok-Some-clause-memory g c = λ memory x is.
    let w = c.new-window.result in
    let v = c.read_head.new.window in
    let old : List ℕ = waiting w.buf w.from w.until ++ drop (g.S.Source.place c.args.source.now) x in
    let new : List ℕ = waiting v.buf v.from v.until ++ drop (g.S.Source.place c.read_head.new.source) x in
    let all : old ≡ x = whole x (waiting w.buf w.from w.until) (g.S.Source.place c.args.source.now) c.new-window.ensures.none (c.requires.start x is) in
    let takes : TakesLine head_at old new (Some c.in-Ok-Some.head) = subst (TakesLine head_at old new) c.in-Ok-Some.field-0-is (c.in-Ok-Some.ensures.takes x is) in
    subst (λ (r : Result Said ℕ). IsBadAfter 2 r) (sym (ap (λ (l : List ℕ). report_from (lines_in l)) (sym all) ∙ report_some old new c.in-Ok-Some.head takes)) (c.read_rest.ensures.memory memory x (c.in-Ok-Some.ensures.told ∙ is))
