use Rattle.std.proofs.Common.{◌≡◌, ◌∙◌, ◌<◌, ℕ, [], length, get_or, map, ap, sym, arith, Option}
use Rattle.std.proofs.lemmas.List.Elements.{All-push, All-same}
use Rattle.std.specs.Prelude.{IfSome}
use Rattle.cm_func.specs.Functions.{place_by}
use Rattle.cm_route.specs.Routes.{Route, shard_of}
use Rattle.cm_shards_files.specs.Shards.{function_at, number_by, number_in, total_of}
use Rattle.cm_shards_files.proofs.MapLemmas.{one_more}
use Rattle.cm_shards_files.proofs.RouteLemmas.{place_at, shard_at, shard_inside}
use Rattle.cm_shards_files.proofs.shards.Shards.numbers.Goals as goal

pub number_at-requires : goal.number_at-requires
number_at-requires c =
    let s = c.args.self.now in
    let keys = c.args.keys.now in
    let i = c.loop-i.i in
    let key = get_or keys i [] in
    let inside : i < length keys = omega (arith, c.loop-i-test.true, c.len-i-end.ensures.len) in
    let routed : c.deref.result.now ≡ map (shard_of s.route) keys = c.deref.ensures.0 ∙ c.route_all.ensures.are ∙ ap (λ (r : Route). map (shard_of r) keys) c.route.ensures.route in
    let shard = shard_at s keys c.deref.result.now i routed inside in
    let place = place_at s keys c.deref-in-loop-i.result.now i (c.deref-in-loop-i.ensures.0 ∙ c.place_all.ensures.are) inside in
    record {
      inside = omega (arith, shard, shard_inside s key c.shards.ensures.sharded);
      place = (key, place ∙ sym (ap (λ (k : ℕ). place_by (function_at s.functions k) key) shard));
    }

pub loop-i-preserved : goal.loop-i-preserved
loop-i-preserved c =
    let s = c.args.self.now in
    let keys = c.args.keys.now in
    let i = c.loop-i.i in
    let key = get_or keys i [] in
    let below = λ (a : Option ℕ). IfSome a (λ n. n < total_of s) in
    let inside : i < length keys = omega (arith, c.loop-i-test.true, c.len-i-end.ensures.len) in
    let routed : c.deref.result.now ≡ map (shard_of s.route) keys = c.deref.ensures.0 ∙ c.route_all.ensures.are ∙ ap (λ (r : Route). map (shard_of r) keys) c.route.ensures.route in
    let shard = shard_at s keys c.deref.result.now i routed inside in
    let place = place_at s keys c.deref-in-loop-i.result.now i (c.deref-in-loop-i.ensures.0 ∙ c.place_all.ensures.are) inside in
    let number : c.number_at.result ≡ number_in s key = c.number_at.ensures.number key (place ∙ sym (ap (λ (k : ℕ). place_by (function_at s.functions k) key) shard)) ∙ ap (λ (k : ℕ). number_by s.functions k key) shard in
    record {
      are = c.push.ensures.items ∙ rw (c.loop-i.invariant.are, number) (one_more (number_in s) keys i [] inside);
      below = All-same below _ _ c.push.ensures.items (All-push below _ _ c.loop-i.invariant.below c.number_at.ensures.below);
    }
