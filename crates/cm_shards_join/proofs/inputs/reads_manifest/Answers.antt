use Rattle.std.proofs.Common.{◌≡◌, ◌∙◌, ℕ, ◌<◌, List, length, get_or, ap, arith, rules}
use Rattle.cm_shards_join.specs.Inputs.{path_for}
use Rattle.cm_shards_join.proofs.InputLemmas.{later_reads, reads_here, reads_later}
use Rattle.cm_shards_join.proofs.inputs.reads_manifest.Goals as goal

pub returns-then-eq-clause-reads : goal.returns-then-eq-clause-reads
returns-then-eq-clause-reads c = λ _.
    let functions : List (List ℕ) = c.args.job.now.functions in
    let manifest : List ℕ = c.args.job.now.manifest in
    let k : ℕ = c.loop-function.function-index in
    let f : List ℕ = c.function-item.result in
    let are = c.as_slice-function-items.ensures.texts in
    let inside : k < length functions = omega (arith, c.loop-function-test.true, c.loop-function.invariant.end, ap length are) in
    let item : f ≡ get_or functions k f = c.function-item.is ∙ ap (λ (l : List (List ℕ)). get_or l k f) are in
    let same : path_for manifest f ≡ manifest = search rules in
    c.loop-function.invariant.found (reads_here manifest functions k f inside item same)

pub loop-function-preserved : goal.loop-function-preserved
loop-function-preserved c =
    let functions : List (List ℕ) = c.args.job.now.functions in
    let manifest : List ℕ = c.args.job.now.manifest in
    let k : ℕ = c.loop-function.function-index in
    let f : List ℕ = c.function-item.result in
    let was = c.loop-function.invariant in
    let are = c.as_slice-function-items.ensures.texts in
    let inside : k < length functions = omega (arith, c.loop-function-test.true, was.end, ap length are) in
    let item : f ≡ get_or functions k f = c.function-item.is ∙ ap (λ (l : List (List ℕ)). get_or l k f) are in
    let other : path_for manifest f ≡ manifest → ⊥ = search rules in
    record { end = was.end; found = λ rest. was.found (reads_later manifest functions k f inside item rest); left = λ reads. later_reads manifest functions k f inside item other (was.left reads) }
