use Rattle.std.proofs.Common.{[], ◌∷◌, ◌++◌, ◌∙◌, ◌+◌, List, Ok, Err, take, drop, get_or, refl, ap, subst, sym, append-nil}
use Rattle.std.proofs.lemmas.List.{drop_all, drop_more, take-append-drop, take_more}
use Rattle.cm_algo_names.specs.declared.algorithm.Algorithm.{Algorithm}
use Rattle.cm_algo_names.specs.declared.algorithm.Algorithm.TheVariants.{Chm}
use Rattle.cm_io.specs.WritingLaws.{then_nothing}
use Rattle.cm_tool.specs.Spills.{TestsSpilled}
use Rattle.cm_tool.specs.TestEnds.{EndsTest}
use Rattle.cm_tool.specs.Tested.{tested_by}
use Rattle.cm_tool.proofs.Tests.{next_ends, one_more, sent_on, stop_ends, stops_spilling}
use Rattle.cm_tool.proofs.testing.test_each.Goals as goal

pub loop-algorithm-preserved : goal.loop-algorithm-preserved
loop-algorithm-preserved g c =
    let job = c.args.job.now in
    let all = c.args.algorithms.now in
    let i = c.loop-algorithm.algorithm-index in
    let known = c.loop-algorithm.invariant in
    let done = c.in-Ok.ensures in
    let P = g.O.Sink in
    let old = (P.state c.loop-algorithm.out).written in
    record {
      files = done.files ∙ known.files;
      reads = done.read_faults ∙ known.reads;
      writes = done.cause.1 ∙ known.writes;
      quiet = done.out_cause ∙ known.quiet;
      sent = λ zero. sent_on (P.state c.args.out.now) (P.state c.loop-algorithm.out) (P.state c.test_algorithm.new.out) known.quiet (known.sent zero) done.sent;
      ends = λ files is next r new ends.
          let a = get_or all i Chm in
          let more = next_ends job a next files old (P.state c.test_algorithm.new.out).written new r (done.ends files (known.files ∙ is)) ends in
          subst (λ (l : List Algorithm). EndsTest (tested_by job files l) (P.state c.args.out.now).written new r) (sym (one_more all i a next (take_more all i Chm c.loop-algorithm-test.true))) (known.ends files is (a ∷ next) r new more);
      spilled = λ files is next new left.
          let a = get_or all i Chm in
          let D = g.D.Disk in
          subst (λ (l : List Algorithm). TestsSpilled job l (D.state c.args.disk.now).spilled new) (sym (one_more all i a next (take_more all i Chm c.loop-algorithm-test.true))) (known.spilled files is (a ∷ next) new ((D.state c.test_algorithm.new.disk).spilled, done.spilled files (known.files ∙ is), left));
    }

pub returns-in-Err-clause-ends : goal.returns-in-Err-clause-ends
returns-in-Err-clause-ends g c = λ files is.
    let job = c.args.job.now in
    let all = c.args.algorithms.now in
    let i = c.loop-algorithm.algorithm-index in
    let known = c.loop-algorithm.invariant in
    let P = g.O.Sink in
    let old = (P.state c.loop-algorithm.out).written in
    let new = (P.state c.test_algorithm.new.out).written in
    let stop = c.in-Err.stop in
    let more = stop_ends job (get_or all i Chm) (drop (i + 1) all) files old new stop (c.in-Err.ensures.ends files (known.files ∙ is)) in
    let here = subst (λ (l : List Algorithm). EndsTest (tested_by job files l) old new (Err stop)) (sym (drop_more all i Chm c.loop-algorithm-test.true)) more in
    subst (λ (l : List Algorithm). EndsTest (tested_by job files l) (P.state c.args.out.now).written new (Err stop)) (take-append-drop i all) (known.ends files is (drop i all) (Err stop) new here)

pub returns-in-Err-clause-spilling : goal.returns-in-Err-clause-spilling
returns-in-Err-clause-spilling g c = λ files is.
    let job = c.args.job.now in
    let all = c.args.algorithms.now in
    let i = c.loop-algorithm.algorithm-index in
    let known = c.loop-algorithm.invariant in
    let P = g.O.Sink in
    let mid = (P.state c.loop-algorithm.out).written in
    let first = take i all in
    let before = subst (λ (l : List Algorithm). EndsTest (tested_by job files l) (P.state c.args.out.now).written mid (Ok tt)) (append-nil first) (known.ends files is [] (Ok tt) mid (refl, refl, then_nothing mid)) in
    stops_spilling job files all first (get_or all i Chm) (drop (i + 1) all) (P.state c.args.out.now).written mid (P.state c.test_algorithm.new.out).written c.in-Err.stop
    (sym (take-append-drop i all) ∙ ap (λ (l : List Algorithm). first ++ l) (drop_more all i Chm c.loop-algorithm-test.true)) c.in-Err.ensures.form c.in-Err.ensures.out before

pub returns-clause-ends : goal.returns-clause-ends
returns-clause-ends g c = λ files is.
    let job = c.args.job.now in
    let all = c.args.algorithms.now in
    let i = c.loop-algorithm.algorithm-index in
    let old = (g.O.Sink.state c.loop-algorithm.out).written in
    let here = subst (λ (l : List Algorithm). EndsTest (tested_by job files l) old old (Ok tt)) (sym (drop_all i all c.loop-algorithm-test.false)) (refl, refl, then_nothing old) in
    subst (λ (l : List Algorithm). EndsTest (tested_by job files l) (g.O.Sink.state c.args.out.now).written old (Ok tt)) (take-append-drop i all) (c.loop-algorithm.invariant.ends files is (drop i all) (Ok tt) old here)

pub returns-clause-spilled : goal.returns-clause-spilled
returns-clause-spilled g c = λ files is.
    let job = c.args.job.now in
    let all = c.args.algorithms.now in
    let i = c.loop-algorithm.algorithm-index in
    let D = g.D.Disk in
    let here = subst (λ (l : List Algorithm). TestsSpilled job l (D.state c.loop-algorithm.disk).spilled (D.state c.loop-algorithm.disk).spilled) (sym (drop_all i all c.loop-algorithm-test.false)) refl in
    subst (λ (l : List Algorithm). TestsSpilled job l (D.state c.args.disk.now).spilled (D.state c.loop-algorithm.disk).spilled) (take-append-drop i all) (c.loop-algorithm.invariant.spilled files is (drop i all) (D.state c.loop-algorithm.disk).spilled here)
