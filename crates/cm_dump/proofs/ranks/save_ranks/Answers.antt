use Rattle.std.proofs.Common.{rules, arith, ◌≡◌, ◌∙◌, ◌-◌, ◌+◌, ℕ, List, drop, take, ap}
use Rattle.cm_dump_images.specs.WritingLaws.{more_wrote, more_stopped}
use Rattle.cm_io.specs.Writing.{then_bytes}
use Rattle.cm_dump.specs.Dumps.{ranks_image}
use Rattle.cm_dump.proofs.RankLemmas.{image_more, image_whole}
use Rattle.cm_dump.proofs.ranks.save_ranks.Goals as goal

pub returns-in_err-write-clause-bytes : goal.returns-in_err-write-clause-bytes
returns-in_err-write-clause-bytes g c =
    let xs : List ℕ = c.args.ranks.now.ranks in
    let done : ℕ = c.pieces.done in
    let k : ℕ = c.min.result in
    let long : done + k - done ≡ k = omega arith in
    let is : c.as_slice.result.now ≡ ranks_image (take k (drop done xs)) = c.as_slice.ensures.value ∙ c.gather_ranks.ensures.piece ∙ ap (λ (n : ℕ). ranks_image (take n (drop done xs))) long in
    let wrote = c.in_err-write.ensures.bytes in
    more_stopped _ (g.O.Sink.state c.pieces.out).written _ (ranks_image (take done xs)) (ranks_image (take k (drop done xs))) (ranks_image (drop (done + k) xs)) (ranks_image xs) _ (image_whole xs done k) c.from_residual.ensures.0 c.pieces.invariant.bytes
    (wrote.0, wrote.1 ∙ ap (λ (ys : List ℕ). then_bytes (g.O.Sink.state c.pieces.out).written (take wrote.0 ys)) is)

pub pieces-preserved : goal.pieces-preserved
pieces-preserved g c =
    let xs : List ℕ = c.args.ranks.now.ranks in
    let done : ℕ = c.pieces.done in
    let k : ℕ = c.min.result in
    let long : done + k - done ≡ k = omega arith in
    let is : c.as_slice.result.now ≡ ranks_image (take k (drop done xs)) = c.as_slice.ensures.value ∙ c.gather_ranks.ensures.piece ∙ ap (λ (n : ℕ). ranks_image (take n (drop done xs))) long in
    record {
      quiet = search rules;
      within = search rules;
      bytes = more_wrote _ (g.O.Sink.state c.pieces.out).written _ (ranks_image (take done xs)) (ranks_image (take k (drop done xs))) _ (image_more xs done k) c.pieces.invariant.bytes
          (c.in_ok-write.ensures.bytes ∙ ap (λ (ys : List ℕ). then_bytes (g.O.Sink.state c.pieces.out).written ys) is);
    }
