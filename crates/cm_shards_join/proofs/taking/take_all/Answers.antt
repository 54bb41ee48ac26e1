use Rattle.std.proofs.Common.{◌≡◌, ◌∙◌, ℕ, ◌+◌, ◌<◌, List, [], length, take, drop, get_or, ap, sym, subst, arith, refl, Some, Ok}
use Rattle.cm_shards_files.specs.LoadingLaws.{no_step, then_no_file}
use Rattle.cm_shards_join.specs.Leaves.{Refuses}
use Rattle.cm_shards_join.specs.Taking.{nothing, take_all}
use Rattle.cm_shards_join.specs.Takings.{taken_by}
use Rattle.cm_shards_manifest.specs.Manifests.{AreShards, spans}
use Rattle.cm_shards_join.proofs.TakeLemmas.{all_args, next_args, split_args, take_named, take_one, take_refuses, take_start}
use Rattle.cm_shards_join.proofs.taking.take_all.Goals as goal

pub returns-in-Err-clause-refused : goal.returns-in-Err-clause-refused
returns-in-Err-clause-refused g c = λ x is.
    let functions : List (List ℕ) = c.args.job.now.functions in
    let manifest : List ℕ = c.args.job.now.manifest in
    let k : ℕ = c.loop-function.function-index in
    let f : List ℕ = c.function-item.result in
    let are = c.as_slice-function-items.ensures.texts in
    let inside : k < length functions = omega (arith, c.loop-function-test.true, c.loop-function.invariant.end, ap length are) in
    let item : f ≡ get_or functions k f = c.function-item.is ∙ ap (λ (l : List (List ℕ)). get_or l k f) are in
    let refused = rw (c.as_str.ensures.bytes, c.as_str-in-loop-function.ensures.bytes) at (c.in-Err.ensures.refused x (c.loop-function.invariant.disk.files ∙ is)) in
    subst (λ (l : List (List ℕ)). Refuses (take_all x manifest nothing l) c.in-Err.stop) (sym (split_args functions k f inside item)) (take_refuses x manifest f nothing (taken_by c.loop-function.taking) (take k functions) (drop (k + 1) functions) c.in-Err.stop (c.loop-function.invariant.taken x is) refused)

pub returns-in-Err-clause-named : goal.returns-in-Err-clause-named
returns-in-Err-clause-named g c = λ x is.
    let functions : List (List ℕ) = c.args.job.now.functions in
    let k : ℕ = c.loop-function.function-index in
    let f : List ℕ = c.function-item.result in
    let are = c.as_slice-function-items.ensures.texts in
    let inside : k < length functions = omega (arith, c.loop-function-test.true, c.loop-function.invariant.end, ap length are) in
    let item : f ≡ get_or functions k f = c.function-item.is ∙ ap (λ (l : List (List ℕ)). get_or l k f) are in
    let named = rw (c.as_str.ensures.bytes, c.as_str-in-loop-function.ensures.bytes) at c.in-Err.ensures.named in
    take_named c.args.job.now x f (taken_by c.loop-function.taking) (take k functions) (drop (k + 1) functions) c.in-Err.stop (split_args functions k f inside item) (c.loop-function.invariant.taken x is) named

pub loop-function-init : goal.loop-function-init
loop-function-init g c =
    let empty : c.new.result.items ≡ [] = c.new.ensures.items in
    record {
      disk = no_step _;
      read_faults = refl;
      taking = record { are = subst (AreShards 0) (sym empty) tt; total = ap spans (sym empty); few = omega arith };
      count = ap length empty;
      end = ap length c.as_slice-function-items.ensures.texts;
      taken = λ x is. take_start x c.args.job.now.manifest c.new.result.items empty;
    }

pub loop-function-preserved : goal.loop-function-preserved
loop-function-preserved g c =
    let functions : List (List ℕ) = c.args.job.now.functions in
    let k : ℕ = c.loop-function.function-index in
    let f : List ℕ = c.function-item.result in
    let was = c.loop-function.invariant in
    let are = c.as_slice-function-items.ensures.texts in
    let inside : k < length functions = omega (arith, c.loop-function-test.true, was.end, ap length are) in
    let item : f ≡ get_or functions k f = c.function-item.is ∙ ap (λ (l : List (List ℕ)). get_or l k f) are in
    record {
      disk = then_no_file was.disk c.take_function.ensures.disk;
      read_faults = c.in-Ok.ensures.cause ∙ was.read_faults;
      taking = c.in-Ok.ensures.taking;
      count = omega (arith, c.in-Ok.ensures.count, was.count);
      end = was.end;
      taken = λ x is.
          let next = rw (c.as_str.ensures.bytes, c.as_str-in-loop-function.ensures.bytes) at (c.in-Ok.ensures.taken x (was.disk.files ∙ is)) in
          ap (take_all x c.args.job.now.manifest nothing) (next_args functions k f inside item) ∙ take_one x c.args.job.now.manifest f nothing (taken_by c.loop-function.taking) (taken_by c.take_function.new.taking) (take k functions) (was.taken x is) next;
    }

pub returns-clause-taken : goal.returns-clause-taken
returns-clause-taken g c = λ x is.
    let functions : List (List ℕ) = c.args.job.now.functions in
    subst (λ (l : List (List ℕ)). take_all x c.args.job.now.manifest nothing l ≡ Some (Ok (taken_by c.loop-function.taking))) (all_args functions c.loop-function.function-index (omega (arith, c.loop-function-test.false, c.loop-function.invariant.end))) (c.loop-function.invariant.taken x is)
