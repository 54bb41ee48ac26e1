use Rattle.std.proofs.Common.{◌≡◌, ◌∙◌, ◌<◌, ◌+◌, ◌-◌, ◌++◌, ℕ, suc, List, [], ◌∷◌, Option, None, Some, Result, Err, drop, length, length-append, ap, sym, subst, arith}
use Rattle.std.specs.Option.{IfSome}
use Rattle.cm_spec.specs.declared.limits.TheConstants.{MAX_EDGES}
use Rattle.cm_witness_gather.specs.declared.certificate.Pair.{Pair}
use Rattle.cm_witness_report.specs.Lines.{lines_in}
use Rattle.cm_witness_report.specs.Parts.{next_pair}
use Rattle.cm_witness_report.specs.Reading.{pairs_from}
use Rattle.cm_witness_report.specs.Reports.{ArePairs, IsPairAfter}
use Rattle.cm_witness_report.specs.Windows.{TakesLine, waiting}
use Rattle.cm_witness_report.proofs.LaterLemmas.{IsBadAfter, with_pairs_after}
use Rattle.cm_witness_report.proofs.LoopLemmas.{again_push, last_again, left_known, pairs_bad_line, pairs_done, pairs_many, pairs_next, pairs_push, with_pairs}
use Rattle.cm_witness_report.proofs.reading.read_pairs.Goals as goal

-- the end, after bytes that are left
none_left : (w' w rest' rest : List ℕ) → w' ++ rest' ≡ w ++ rest → w' ≡ [] → rest' ≡ [] → w ++ rest ≡ []
none_left w' w rest' rest same none after = sym same ∙ ap (λ (l : List ℕ). l ++ rest') none ∙ after

some_left : (w rest : List ℕ) → 0 < length w → 0 < length (w ++ rest)
some_left w rest some = omega (arith, some, length-append w rest)

pub returns-in-Ok-true-clause-exact : goal.returns-in-Ok-true-clause-exact
returns-in-Ok-true-clause-exact g c = λ x is.
    let inv = c.loop-done.invariant in
    let w = c.loop-done.window in
    let v = c.has_ended.new.self in
    let ens = c.in-Ok-true.ensures in
    let gone = ens.none c.in-Ok-true.field-0-test in
    let all = left_known _ _ x _ _ _ _ ens.told (inv.told ∙ is) ens.left in
    let none = none_left (waiting v.buf v.from v.until) (waiting w.buf w.from w.until) (drop (g.S.Source.place c.has_ended.new.source) x) (drop (g.S.Source.place c.loop-done.source) x) all gone.0 (ens.ended gone.1 x (ens.told ∙ (inv.told ∙ is))) in
    sym (inv.same x is) ∙ pairs_done c.loop-done.last (c.args.start + c.loop-done.done) (MAX_EDGES - c.loop-done.done) (waiting w.buf w.from w.until ++ drop (g.S.Source.place c.loop-done.source) x) c.loop-done.pairs.items none

pub returns-in-Ok-None-clause-exact : goal.returns-in-Ok-None-clause-exact
returns-in-Ok-None-clause-exact g c = λ x is.
    let inv = c.loop-done.invariant in
    let w = c.loop-done.window in
    let v = c.has_ended.new.self in
    let u = c.read_pair.new.window in
    let ens = c.in-Ok-false.ensures in
    let ps = c.loop-done.pairs.items in
    let last = c.loop-done.last in
    let line = c.args.start + c.loop-done.done in
    let left = MAX_EDGES - 1 - c.loop-done.done in
    let old : List ℕ = waiting v.buf v.from v.until ++ drop (g.S.Source.place c.has_ended.new.source) x in
    let new : List ℕ = waiting u.buf u.from u.until ++ drop (g.S.Source.place c.read_pair.new.source) x in
    let all = left_known _ _ x _ _ _ _ ens.told (inv.told ∙ is) ens.left in
    let some = some_left (waiting v.buf v.from v.until) (drop (g.S.Source.place c.has_ended.new.source) x) (ens.some c.in-Ok-false.field-0-test) in
    let more : MAX_EDGES - c.loop-done.done ≡ suc left = omega (arith, c.loop-done-test.true) in
    let takes : TakesLine (next_pair last) old new None = subst (TakesLine (next_pair last) old new) c.in-Ok-None.field-0-is (c.in-Ok-None.ensures.takes x (ens.told ∙ (inv.told ∙ is))) in
    sym (inv.same x is) ∙ ap (λ (l : List ℕ). with_pairs ps (pairs_from last line (MAX_EDGES - c.loop-done.done) (lines_in l))) (sym all)
    ∙ ap (λ (k : ℕ). with_pairs ps (pairs_from last line k (lines_in old))) more
    ∙ pairs_bad_line last line left old new ps some takes

pub loop-done-preserved : goal.loop-done-preserved
loop-done-preserved g c =
    let inv = c.loop-done.invariant in
    let w = c.loop-done.window in
    let v = c.has_ended.new.self in
    let u = c.read_pair.new.window in
    let before = c.in-Ok-false.ensures in
    let ens = c.in-Ok-Some.ensures in
    let ps = c.loop-done.pairs.items in
    let pair = c.in-Ok-Some.pair in
    let last = c.loop-done.last in
    let line = c.args.start + c.loop-done.done in
    let left = MAX_EDGES - 1 - c.loop-done.done in
    let items : c.push.new.self.items ≡ ps ++ pair ∷ [] = c.in-Ok.ensures.items in
    let valid : IfSome (Some pair) (IsPairAfter last) = subst (λ (o : Option Pair). IfSome o (IsPairAfter last)) c.in-Ok-Some.field-0-is ens.valid in
    let next : IsPairAfter (last_again 0 ps) pair = subst (λ (k : ℕ). IsPairAfter k pair) inv.after valid in
    record {
      told = ens.told ∙ before.told ∙ inv.told;
      quiet = ens.cause.fine ∙ before.cause.fine ∙ inv.quiet;
      ended = ens.ended;
      many = omega (arith, ap length items, length-append ps (pair ∷ []), inv.many);
      are = subst (ArePairs 0) (sym items) (pairs_push 0 ps pair inv.are next);
      after = again_push 0 ps pair ∙ ap (last_again 0) (sym items);
      same = λ x is.
          let old : List ℕ = waiting v.buf v.from v.until ++ drop (g.S.Source.place c.has_ended.new.source) x in
          let new : List ℕ = waiting u.buf u.from u.until ++ drop (g.S.Source.place c.read_pair.new.source) x in
          let all = left_known _ _ x _ _ _ _ before.told (inv.told ∙ is) before.left in
          let more : MAX_EDGES - c.loop-done.done ≡ suc left = omega (arith, c.loop-done-test.true) in
          let fewer : MAX_EDGES - (c.loop-done.done + 1) ≡ left = omega arith in
          let later : c.args.start + (c.loop-done.done + 1) ≡ line + 1 = omega arith in
          let takes : TakesLine (next_pair last) old new (Some pair) = subst (TakesLine (next_pair last) old new) c.in-Ok-Some.field-0-is (ens.takes x (before.told ∙ (inv.told ∙ is))) in
          ap (λ (l : List Pair). with_pairs l (pairs_from pair.again (c.args.start + (c.loop-done.done + 1)) (MAX_EDGES - (c.loop-done.done + 1)) (lines_in new))) items
          ∙ ap (λ (k : ℕ). with_pairs (ps ++ pair ∷ []) (pairs_from pair.again k (MAX_EDGES - (c.loop-done.done + 1)) (lines_in new))) later
          ∙ ap (λ (k : ℕ). with_pairs (ps ++ pair ∷ []) (pairs_from pair.again (line + 1) k (lines_in new))) fewer
          ∙ sym (pairs_next last line left old new ps pair takes)
          ∙ ap (λ (k : ℕ). with_pairs ps (pairs_from last line k (lines_in old))) (sym more)
          ∙ ap (λ (l : List ℕ). with_pairs ps (pairs_from last line (MAX_EDGES - c.loop-done.done) (lines_in l))) all
          ∙ inv.same x is;
    }

pub returns-in-Ok-true-has_ended-clause-exact : goal.returns-in-Ok-true-has_ended-clause-exact
returns-in-Ok-true-has_ended-clause-exact g c = λ x is.
    let inv = c.loop-done.invariant in
    let w = c.loop-done.window in
    let v = c.has_ended-2.new.self in
    let ens = c.in-Ok-true-has_ended.ensures in
    let gone = ens.none c.in-Ok-true-has_ended.field-0-test in
    let all = left_known _ _ x _ _ _ _ ens.told (inv.told ∙ is) ens.left in
    let none = none_left (waiting v.buf v.from v.until) (waiting w.buf w.from w.until) (drop (g.S.Source.place c.has_ended-2.new.source) x) (drop (g.S.Source.place c.loop-done.source) x) all gone.0 (ens.ended gone.1 x (ens.told ∙ (inv.told ∙ is))) in
    sym (inv.same x is) ∙ pairs_done c.loop-done.last (c.args.start + c.loop-done.done) (MAX_EDGES - c.loop-done.done) (waiting w.buf w.from w.until ++ drop (g.S.Source.place c.loop-done.source) x) c.loop-done.pairs.items none

pub returns-in-Ok-false-has_ended-clause-exact : goal.returns-in-Ok-false-has_ended-clause-exact
returns-in-Ok-false-has_ended-clause-exact g c = λ x is.
    let inv = c.loop-done.invariant in
    let w = c.loop-done.window in
    let v = c.has_ended-2.new.self in
    let ens = c.in-Ok-false-has_ended.ensures in
    let ps = c.loop-done.pairs.items in
    let last = c.loop-done.last in
    let line = c.args.start + c.loop-done.done in
    let old : List ℕ = waiting v.buf v.from v.until ++ drop (g.S.Source.place c.has_ended-2.new.source) x in
    let all = left_known _ _ x _ _ _ _ ens.told (inv.told ∙ is) ens.left in
    let some = some_left (waiting v.buf v.from v.until) (drop (g.S.Source.place c.has_ended-2.new.source) x) (ens.some c.in-Ok-false-has_ended.field-0-test) in
    let none : MAX_EDGES - c.loop-done.done ≡ 0 = omega (arith, c.loop-done-test.false) in
    let at_end : line ≡ c.args.start + MAX_EDGES = omega (arith, c.loop-done-test.false, c.loop-done.auto.done-end) in
    sym (inv.same x is) ∙ ap (λ (l : List ℕ). with_pairs ps (pairs_from last line (MAX_EDGES - c.loop-done.done) (lines_in l))) (sym all)
    ∙ ap (λ (k : ℕ). with_pairs ps (pairs_from last line k (lines_in old))) none
    ∙ pairs_many last line old ps some ∙ ap (λ (k : ℕ). let r : Result (List Pair) ℕ = Err k in r) at_end

pub returns-in-Err-push-clause-memory : goal.returns-in-Err-push-clause-memory
returns-in-Err-push-clause-memory g c = λ memory x is.
    let inv = c.loop-done.invariant in
    let w = c.loop-done.window in
    let v = c.has_ended.new.self in
    let u = c.read_pair.new.window in
    let before = c.in-Ok-false.ensures in
    let ps = c.loop-done.pairs.items in
    let pair = c.in-Ok-Some.pair in
    let last = c.loop-done.last in
    let line = c.args.start + c.loop-done.done in
    let left = MAX_EDGES - 1 - c.loop-done.done in
    let old : List ℕ = waiting v.buf v.from v.until ++ drop (g.S.Source.place c.has_ended.new.source) x in
    let new : List ℕ = waiting u.buf u.from u.until ++ drop (g.S.Source.place c.read_pair.new.source) x in
    let all = left_known _ _ x _ _ _ _ before.told (inv.told ∙ is) before.left in
    let more : MAX_EDGES - c.loop-done.done ≡ suc left = omega (arith, c.loop-done-test.true) in
    let takes : TakesLine (next_pair last) old new (Some pair) = subst (TakesLine (next_pair last) old new) c.in-Ok-Some.field-0-is (c.in-Ok-Some.ensures.takes x (before.told ∙ (inv.told ∙ is))) in
    subst (λ (r : Result (List Pair) ℕ). IsBadAfter c.args.start r) (sym (pairs_next last line left old new ps pair takes)
    ∙ ap (λ (k : ℕ). with_pairs ps (pairs_from last line k (lines_in old))) (sym more)
    ∙ ap (λ (l : List ℕ). with_pairs ps (pairs_from last line (MAX_EDGES - c.loop-done.done) (lines_in l))) all
    ∙ inv.same x is) (with_pairs_after pair.again (line + 1) left (lines_in new) (ps ++ pair ∷ []) c.args.start (omega arith))
