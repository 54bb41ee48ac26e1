use Rattle.std.proofs.Common.{◌≡◌, ◌<◌, ◌≤◌, All, is_some, length, slice_index, take, true, vec_capacity}
use Rattle.std.specs.Option.{ForSome}
use Rattle.cm_algo_names.specs.declared.algorithm.Algorithm.{Algorithm}
use Rattle.cm_witness_gather.specs.Cores.{core_edges, keys_at}
use Rattle.cm_witness_gather.specs.Gathers.{ends_of, has_third}
use Rattle.cm_witness_gather.specs.Noted.{AreNoted}
use Rattle.cm_witness_gather.proofs.GatherLemmas.{candidates_in}
use Rattle.cm_witness_gather.proofs.gathering.gather_edges.Given as goal

abbrev pub invariant-loop-e : goal.invariant-loop-e
invariant-loop-e g l =
    let P = g.P.KeyPass in
    record {
      ready : P.usable l.keys ≡ true;
      same : P.told l.keys ≡ P.told l.fn.keys;
      quiet : P.faults l.keys ≡ P.faults l.fn.keys;
      at : P.place l.keys ≡ l.given;
      few : l.given ≤ l.m;
      ahead : l.e-index < length l.rest → l.given ≤ slice_index l.rest l.e-index;
      room : length l.rest ≤ vec_capacity l.core;
      count : length l.core.items ≡ l.e-index;
      third : (algorithm : Algorithm) → g.row.K ≡ ends_of algorithm → All (λ e. is_some e.third ≡ has_third algorithm) l.core.items;
      edges : ForSome (P.told l.fn.keys) (λ told. l.core.items ≡ core_edges told.keys l.edges.edges (take l.e-index l.rest));
      noted : ForSome (P.told l.fn.keys) (λ told. AreNoted (keys_at told.keys (candidates_in l.candidates l.edges.edges (take l.e-index l.rest))) l.equal.firsts l.equal.pairs.items);
    }
