use Rattle.std.proofs.Common.{◌≡◌, ◌∙◌, ◌+◌, ◌-◌, ◌++◌, ℕ, suc, List, [], ◌∷◌, Option, None, Some, Result, drop, length, length-append, ap, sym, subst, arith}
use Rattle.std.specs.Option.{IfSome}
use Rattle.cm_witness_gather.specs.declared.certificate.CoreEdge.{CoreEdge}
use Rattle.cm_witness_report.specs.Lines.{lines_in}
use Rattle.cm_witness_report.specs.Parts.{next_edge}
use Rattle.cm_witness_report.specs.Reading.{edges_from}
use Rattle.cm_witness_report.specs.Reports.{AreEdges, ComesNext}
use Rattle.cm_witness_report.specs.Windows.{TakesLine, waiting}
use Rattle.cm_witness_report.proofs.LaterLemmas.{IsBadAfter, with_edges_after}
use Rattle.cm_witness_report.proofs.LoopLemmas.{edges_bad_line, edges_done, edges_next, edges_push, last_line, last_push, with_edges}
use Rattle.cm_witness_report.proofs.reading.read_edges.Goals as goal

pub returns-in-Ok-None-clause-exact : goal.returns-in-Ok-None-clause-exact
returns-in-Ok-None-clause-exact g c = λ x is.
    let inv = c.loop-done.invariant in
    let w = c.loop-done.window in
    let v = c.read_edge.new.window in
    let old = waiting w.buf w.from w.until ++ drop (g.S.Source.place c.loop-done.source) x in
    let new = waiting v.buf v.from v.until ++ drop (g.S.Source.place c.read_edge.new.source) x in
    let left = (c.args.count - 1) - c.loop-done.done in
    let more : c.args.count - c.loop-done.done ≡ suc left = omega (arith, c.loop-done-test.true) in
    let takes : TakesLine (next_edge c.args.third c.loop-done.last left) old new None = subst (TakesLine (next_edge c.args.third c.loop-done.last left) old new) c.in-Ok-None.field-0-is (c.in-Ok-None.ensures.takes x (inv.told ∙ is)) in
    sym (inv.same x is) ∙ ap (λ (k : ℕ). with_edges c.loop-done.edges.items (edges_from c.args.third c.loop-done.last (2 + c.loop-done.done) k (lines_in old))) more
    ∙ edges_bad_line c.args.third c.loop-done.last (2 + c.loop-done.done) left old new c.loop-done.edges.items takes

pub loop-done-preserved : goal.loop-done-preserved
loop-done-preserved g c =
    let inv = c.loop-done.invariant in
    let w = c.loop-done.window in
    let v = c.read_edge.new.window in
    let es = c.loop-done.edges.items in
    let edge = c.in-Ok-Some.edge in
    let ens = c.in-Ok-Some.ensures in
    let left = (c.args.count - 1) - c.loop-done.done in
    let items : c.push.new.self.items ≡ es ++ edge ∷ [] = c.in-Ok.ensures.items in
    let valid : IfSome (Some edge) (ComesNext c.args.third c.loop-done.last) = subst (λ (o : Option CoreEdge). IfSome o (ComesNext c.args.third c.loop-done.last)) c.in-Ok-Some.field-0-is ens.valid in
    let next : ComesNext c.args.third (last_line 0 es) edge = subst (λ (k : ℕ). ComesNext c.args.third k edge) inv.after valid in
    record {
      told = ens.told ∙ inv.told;
      quiet = ens.cause.fine ∙ inv.quiet;
      ended = ens.ended;
      many = omega (arith, ap length items, length-append es (edge ∷ []), inv.many);
      are = subst (AreEdges c.args.third 0) (sym items) (edges_push c.args.third 0 es edge inv.are next);
      after = last_push 0 es edge ∙ ap (last_line 0) (sym items);
      same = λ x is.
          let old = waiting w.buf w.from w.until ++ drop (g.S.Source.place c.loop-done.source) x in
          let new = waiting v.buf v.from v.until ++ drop (g.S.Source.place c.read_edge.new.source) x in
          let more : c.args.count - c.loop-done.done ≡ suc left = omega (arith, c.loop-done-test.true) in
          let fewer : c.args.count - (c.loop-done.done + 1) ≡ left = omega arith in
          let line : 2 + (c.loop-done.done + 1) ≡ (2 + c.loop-done.done) + 1 = omega arith in
          let takes : TakesLine (next_edge c.args.third c.loop-done.last left) old new (Some edge) = subst (TakesLine (next_edge c.args.third c.loop-done.last left) old new) c.in-Ok-Some.field-0-is (ens.takes x (inv.told ∙ is)) in
          ap (λ (l : List CoreEdge). with_edges l (edges_from c.args.third edge.line (2 + (c.loop-done.done + 1)) (c.args.count - (c.loop-done.done + 1)) (lines_in new))) items
          ∙ ap (λ (k : ℕ). with_edges (es ++ edge ∷ []) (edges_from c.args.third edge.line k (c.args.count - (c.loop-done.done + 1)) (lines_in new))) line
          ∙ ap (λ (k : ℕ). with_edges (es ++ edge ∷ []) (edges_from c.args.third edge.line ((2 + c.loop-done.done) + 1) k (lines_in new))) fewer
          ∙ sym (edges_next c.args.third c.loop-done.last (2 + c.loop-done.done) left old new es edge takes)
          ∙ ap (λ (k : ℕ). with_edges es (edges_from c.args.third c.loop-done.last (2 + c.loop-done.done) k (lines_in old))) (sym more)
          ∙ inv.same x is;
    }

pub returns-clause-exact : goal.returns-clause-exact
returns-clause-exact g c = λ x is.
    let inv = c.loop-done.invariant in
    let w = c.loop-done.window in
    let old = waiting w.buf w.from w.until ++ drop (g.S.Source.place c.loop-done.source) x in
    let none : c.args.count - c.loop-done.done ≡ 0 = omega (arith, c.loop-done-test.false) in
    sym (inv.same x is) ∙ ap (λ (k : ℕ). with_edges c.loop-done.edges.items (edges_from c.args.third c.loop-done.last (2 + c.loop-done.done) k (lines_in old))) none
    ∙ edges_done c.args.third c.loop-done.last (2 + c.loop-done.done) (lines_in old) c.loop-done.edges.items

pub returns-in-Err-push-clause-memory : goal.returns-in-Err-push-clause-memory
returns-in-Err-push-clause-memory g c = λ memory x is.
    let inv = c.loop-done.invariant in
    let w = c.loop-done.window in
    let v = c.read_edge.new.window in
    let es = c.loop-done.edges.items in
    let edge = c.in-Ok-Some.edge in
    let line = 2 + c.loop-done.done in
    let left = (c.args.count - 1) - c.loop-done.done in
    let old = waiting w.buf w.from w.until ++ drop (g.S.Source.place c.loop-done.source) x in
    let new = waiting v.buf v.from v.until ++ drop (g.S.Source.place c.read_edge.new.source) x in
    let more : c.args.count - c.loop-done.done ≡ suc left = omega (arith, c.loop-done-test.true) in
    let takes : TakesLine (next_edge c.args.third c.loop-done.last left) old new (Some edge) = subst (TakesLine (next_edge c.args.third c.loop-done.last left) old new) c.in-Ok-Some.field-0-is (c.in-Ok-Some.ensures.takes x (inv.told ∙ is)) in
    subst (λ (r : Result (List CoreEdge × List (List ℕ)) ℕ). IsBadAfter 2 r) (sym (edges_next c.args.third c.loop-done.last line left old new es edge takes)
    ∙ ap (λ (k : ℕ). with_edges es (edges_from c.args.third c.loop-done.last line k (lines_in old))) (sym more)
    ∙ inv.same x is) (with_edges_after c.args.third edge.line (line + 1) left (lines_in new) (es ++ edge ∷ []) 2 (omega arith))
