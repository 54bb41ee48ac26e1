use Rattle.std.proofs.Common.{◌≡◌, ◌+◌, ◌++◌, map, take, true, false, vec_len, vec_capacity}
use Rattle.cm_algo_seeds.proofs.passes.add_keys.Given as goal

abbrev pub invariant-loop-hashed : goal.invariant-loop-hashed
invariant-loop-hashed g l =
    let r = g.S.Scheme.rule l.scheme in
    record {
      edges : l.edges ≡ record l.fn.edges { edges = l.fn.edges.edges ++ map (λ hashed. r.edge hashed l.fn.edges.vertices) (take l.hashed-index l.all) };
      tags : g.S.Scheme.KEEPS_TAGS ≡ true → l.tags.items ≡ l.fn.tags.items ++ map r.tag (take l.hashed-index l.all);
      untagged : g.S.Scheme.KEEPS_TAGS ≡ false → l.tags.items ≡ l.fn.tags.items;
      tag_count : g.S.Scheme.KEEPS_TAGS ≡ true → vec_len l.tags ≡ vec_len l.fn.tags + l.hashed-index;
      capacity : vec_capacity l.tags ≡ vec_capacity l.fn.tags;
    }
