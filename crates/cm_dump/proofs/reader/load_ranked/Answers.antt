use Rattle.std.proofs.Common.{◌≡◌, ◌∙◌, ℕ, List, arith, refl}
use Rattle.cm_bits.specs.Held.{packed_cells}
use Rattle.cm_dump_items.specs.StepLaws.{fails_then}
use Rattle.cm_rank.specs.Ranks.{sampled}
use Rattle.cm_dump.proofs.BodyLemmas.{ranked_known}
use Rattle.cm_dump.proofs.reader.load_ranked.Goals as goal

pub returns-in-Err-clause-cause : goal.returns-in-Err-clause-cause
returns-in-Err-clause-cause g c = c.in-Err.ensures.cause _

pub read_ranks-requires-clause-at : goal.read_ranks-requires-clause-at
read_ranks-requires-clause-at g c = λ x is. let at = c.requires.at x is in (rw (c.image_len-at.ensures, c.len.ensures) at.0, rw (c.image_len-at.ensures, c.len.ensures) at.1)

pub returns-in-Err-read_ranks-clause-exact : goal.returns-in-Err-read_ranks-clause-exact
returns-in-Err-read_ranks-clause-exact g c = λ x is.
    let cells : List ℕ = packed_cells 4 4 c.args.cells.n c.args.cells.bytes.items in
    let ranks : List ℕ = c.ranks-ranks.result.now.ranks in
    let f = c.in-Ok.bdz in
    let are : ranks ≡ sampled 3 f.shift f.cells = rw (c.ranks-ranks.ensures.idle, c.ranks-ranks.ensures.shift) at c.ranks-ranks.ensures.stands in
    let known = ranked_known x c.args.header cells ranks f c.in-Ok.ensures.exact are in
    let failed = rw (c.image_len-at.ensures, c.len.ensures) at (c.in-Err-read_ranks.ensures.exact x is) in
    rw known (fails_then c.in-Err-read_ranks.fault _ _ failed)

pub end-requires : goal.end-requires
end-requires g c = record {
  at = λ x is.
      let at = c.in-Ok-read_ranks.ensures.at x is in
      let many = c.entries.ensures.entries in
      (omega (arith, at.0, many), omega (arith, at.1, many));
}

pub returns-in-Ok-end-clause-exact : goal.returns-in-Ok-end-clause-exact
returns-in-Ok-end-clause-exact g c = λ x is.
    let cells : List ℕ = packed_cells 4 4 c.args.cells.n c.args.cells.bytes.items in
    let ranks : List ℕ = c.ranks-ranks.result.now.ranks in
    let f = c.in-Ok.bdz in
    let are : ranks ≡ sampled 3 f.shift f.cells = rw (c.ranks-ranks.ensures.idle, c.ranks-ranks.ensures.shift) at c.ranks-ranks.ensures.stands in
    let known = ranked_known x c.args.header cells ranks f c.in-Ok.ensures.exact are in
    let ranked = rw (c.image_len-at.ensures, c.len.ensures) at (c.in-Ok-read_ranks.ensures.exact x is) in
    let ended = rw (c.image_len-at.ensures, c.len.ensures, c.entries.ensures.entries) at (c.in-Ok-end.ensures.exact x (c.in-Ok-read_ranks.ensures.told ∙ is)) in
    rw (known, ranked, ended) refl

pub returns-in-Err-end-clause-exact : goal.returns-in-Err-end-clause-exact
returns-in-Err-end-clause-exact g c = λ x is.
    let cells : List ℕ = packed_cells 4 4 c.args.cells.n c.args.cells.bytes.items in
    let ranks : List ℕ = c.ranks-ranks.result.now.ranks in
    let f = c.in-Ok.bdz in
    let are : ranks ≡ sampled 3 f.shift f.cells = rw (c.ranks-ranks.ensures.idle, c.ranks-ranks.ensures.shift) at c.ranks-ranks.ensures.stands in
    let known = ranked_known x c.args.header cells ranks f c.in-Ok.ensures.exact are in
    let ranked = rw (c.image_len-at.ensures, c.len.ensures) at (c.in-Ok-read_ranks.ensures.exact x is) in
    let failed = rw (c.image_len-at.ensures, c.len.ensures, c.entries.ensures.entries) at (c.in-Err-end.ensures.exact x (c.in-Ok-read_ranks.ensures.told ∙ is)) in
    rw (known, ranked) (fails_then c.in-Err-end.fault _ _ failed)
