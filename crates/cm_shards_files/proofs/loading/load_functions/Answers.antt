use Rattle.std.proofs.Common.{Global, Vec, ◌∙◌, List, [], ◌∷◌, length, length-append, ap, sym, arith, Some, Ok, Result}
use Rattle.std.proofs.lemmas.List.{take_all}
use Rattle.std.proofs.lemmas.List.Elements.{All-push, All-same}
use Rattle.cm_func.specs.Functions.{IsFunction}
use Rattle.cm_func.specs.declared.function.Func.{Func}
use Rattle.cm_shards_files.specs.Loading.{functions_of}
use Rattle.cm_shards_files.specs.LoadingLaws.{then_no_file}
use Rattle.cm_shards_files.specs.declared.fault.ShardsFault.{ShardsFault}
use Rattle.cm_shards_files.proofs.LoadLemmas.{loads_more, loads_until}
use Rattle.cm_shards_files.proofs.loading.load_functions.Goals as goal

pub returns-in-Err-clause-loads : goal.returns-in-Err-clause-loads
returns-in-Err-clause-loads g c = λ files is.
    let loads = c.in-Err.ensures.loads files (c.loop-shard.invariant.disk.files ∙ is) in
    loads_until (λ (v : Vec Func Global). v.items) files c.args.manifest.now c.args.algorithm c.args.shards.now c.loop-shard.shard-index c.shard-item.result c.loop-shard.functions.items c.in-Err.fault c.loop-shard-test.true c.shard-item.is (c.loop-shard.invariant.loads files is) loads

pub loop-shard-preserved : goal.loop-shard-preserved
loop-shard-preserved g c =
    let inv = c.loop-shard.invariant in
    record {
      disk = then_no_file inv.disk c.load_function.ensures.disk;
      read_faults = c.in-Ok.ensures.cause ∙ inv.read_faults;
      loads = λ files is.
          (let loads = c.in-Ok.ensures.loads files (inv.disk.files ∙ is) in
          loads_more files c.args.manifest.now c.args.algorithm c.args.shards.now c.loop-shard.shard-index c.shard-item.result c.loop-shard.functions.items c.in-Ok.function c.loop-shard-test.true c.shard-item.is (inv.loads files is) loads
          ∙ ap (λ (fs : List Func). let r : Result (List Func) ShardsFault = Ok fs in Some r) (sym c.in-Ok-push.ensures.items));
      valid = All-same IsFunction _ _ c.in-Ok-push.ensures.items (All-push IsFunction _ _ inv.valid c.in-Ok.ensures.valid);
      each = omega (arith, ap length c.in-Ok-push.ensures.items, length-append c.loop-shard.functions.items (c.in-Ok.function ∷ []), inv.each);
    }

pub returns-clause-loads : goal.returns-clause-loads
returns-clause-loads g c = λ files is.
    ap (functions_of files c.args.manifest.now c.args.algorithm) (sym (take_all c.loop-shard.shard-index c.args.shards.now (omega (arith, c.loop-shard-test.false)))) ∙ c.loop-shard.invariant.loads files is
