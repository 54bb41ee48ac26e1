use Rattle.std.proofs.Common.{◌≡◌, ◌-◌, ◌≤◌, vec_len, vec_capacity, true, false, ◌++◌, map, drop, length, []}
use Rattle.std.specs.Option.{ForSome}
use Rattle.cm_spec.specs.Built.{edge_of, tag_of}
use Rattle.cm_algo_seeds.proofs.passes.hash_all.Given as goal

abbrev pub invariant-more : goal.invariant-more
invariant-more g l =
    let P = g.P.KeyPass in
    record {
      ready : P.usable l.keys ≡ true;
      same : P.told l.keys ≡ P.told l.fn.keys;
      quiet : P.faults l.keys ≡ P.faults l.fn.keys;
      few : l.count ≤ l.m;
      at : P.place l.keys ≡ l.count;
      vertices : l.edges.vertices ≡ l.fn.edges.vertices;
      divisor : l.divisor ≡ g.S.Scheme.divisor_of l.scheme l.fn.edges.vertices;
      room : l.m ≤ l.edges.room;
      tag_room : g.S.Scheme.KEEPS_TAGS ≡ true → l.m ≤ vec_capacity l.tags;
      tag_count : g.S.Scheme.KEEPS_TAGS ≡ true → vec_len l.tags ≡ l.count;
      edges_long : length l.edges.edges ≡ l.count;
      edges : ForSome (P.told l.fn.keys) (λ told. l.edges.edges ++ map (edge_of (g.S.Scheme.rule l.scheme) l.fn.edges.vertices l.seed) (drop (P.place l.keys) told.keys) ≡ map (edge_of (g.S.Scheme.rule l.scheme) l.fn.edges.vertices l.seed) told.keys);
      tags_long : g.S.Scheme.KEEPS_TAGS ≡ true → length l.tags.items ≡ l.count;
      untagged : g.S.Scheme.KEEPS_TAGS ≡ false → l.tags.items ≡ [];
      tags : g.S.Scheme.KEEPS_TAGS ≡ true → ForSome (P.told l.fn.keys) (λ told. l.tags.items ++ map (tag_of (g.S.Scheme.rule l.scheme) l.seed) (drop (P.place l.keys) told.keys) ≡ map (tag_of (g.S.Scheme.rule l.scheme) l.seed) told.keys);
    }

abbrev pub decreases-more : goal.decreases-more
decreases-more g l = l.m - l.count
