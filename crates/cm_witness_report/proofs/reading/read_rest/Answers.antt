use Rattle.std.proofs.Common.{◌∙◌}
use Rattle.cm_witness_report.specs.Reading.{said_of}
use Rattle.cm_witness_report.proofs.LaterLemmas.{core_after, edges_read, memory_too, overfull_after}
use Rattle.cm_witness_report.proofs.LoopLemmas.{core_all, core_edges, core_pairs, overfull_all, overfull_pairs}
use Rattle.cm_witness_report.proofs.reading.read_rest.Goals as goal

pub returns-in-Err-clause-exact : goal.returns-in-Err-clause-exact
returns-in-Err-clause-exact g c = λ x is.
    let edges = rw c.has_third_end-third.ensures at (c.in-Err.ensures.exact x is) in
    rw c.in-Core.is (core_edges c.in-Core.algorithm c.in-Core.place c.in-Core.seed c.in-Core.count _ c.in-Err.fault said_of edges)

pub returns-in-Ok-read_pairs-clause-exact : goal.returns-in-Ok-read_pairs-clause-exact
returns-in-Ok-read_pairs-clause-exact g c = λ x is.
    let edges = rw c.has_third_end-third.ensures at (c.in-Ok.ensures.exact x is) in
    let pairs = c.in-Ok-read_pairs.ensures.exact x (c.in-Ok.ensures.told ∙ is) in
    rw c.in-Core.is (core_all c.in-Core.algorithm c.in-Core.place c.in-Core.seed c.in-Core.count _ _ _ _ edges pairs)

pub returns-in-Err-read_pairs-clause-exact : goal.returns-in-Err-read_pairs-clause-exact
returns-in-Err-read_pairs-clause-exact g c = λ x is.
    let edges = rw c.has_third_end-third.ensures at (c.in-Ok.ensures.exact x is) in
    let pairs = c.in-Err-read_pairs.ensures.exact x (c.in-Ok.ensures.told ∙ is) in
    rw c.in-Core.is (core_pairs c.in-Core.algorithm c.in-Core.place c.in-Core.seed c.in-Core.count _ _ _ c.in-Err-read_pairs.fault said_of edges pairs)

pub returns-in-Ok-read_pairs-2-clause-exact : goal.returns-in-Ok-read_pairs-2-clause-exact
returns-in-Ok-read_pairs-2-clause-exact g c = λ x is.
    rw c.in-Overfull.is (overfull_all c.in-Overfull.seed c.in-Overfull.bucket c.in-Overfull.count _ _ (c.in-Ok-read_pairs-2.ensures.exact x is))

pub returns-in-Err-read_pairs-2-clause-exact : goal.returns-in-Err-read_pairs-2-clause-exact
returns-in-Err-read_pairs-2-clause-exact g c = λ x is.
    rw c.in-Overfull.is (overfull_pairs c.in-Overfull.seed c.in-Overfull.bucket c.in-Overfull.count _ c.in-Err-read_pairs-2.fault said_of (c.in-Err-read_pairs-2.ensures.exact x is))

pub returns-in-Err-clause-memory : goal.returns-in-Err-clause-memory
returns-in-Err-clause-memory g c = λ memory x is.
    let some = (rw c.in-Core.is at c.requires.head).3 in
    let edges = rw c.has_third_end-third.ensures at (c.in-Err.ensures.memory (memory_too _ _ c.in-Err.fault memory) x is) in
    rw c.in-Core.is (core_after c.in-Core.algorithm c.in-Core.place c.in-Core.seed c.in-Core.count _ some edges)

pub returns-in-Err-read_pairs-clause-memory : goal.returns-in-Err-read_pairs-clause-memory
returns-in-Err-read_pairs-clause-memory g c = λ memory x is.
    let some = (rw c.in-Core.is at c.requires.head).3 in
    let edges = rw c.has_third_end-third.ensures at (c.in-Ok.ensures.exact x is) in
    rw c.in-Core.is (core_after c.in-Core.algorithm c.in-Core.place c.in-Core.seed c.in-Core.count _ some (edges_read _ _ _ _ edges))

pub returns-in-Err-read_pairs-2-clause-memory : goal.returns-in-Err-read_pairs-2-clause-memory
returns-in-Err-read_pairs-2-clause-memory g c = λ memory x is.
    rw c.in-Overfull.is (overfull_after c.in-Overfull.seed c.in-Overfull.bucket c.in-Overfull.count _ (c.in-Err-read_pairs-2.ensures.memory (memory_too _ _ c.in-Err-read_pairs-2.fault memory) x is))
