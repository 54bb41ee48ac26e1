use Rattle.std.proofs.Common.{rules, arith, ◌≡◌, ◌∙◌, ◌-◌, ◌+◌, ◌≤◌, ℕ, List, length, map, take, ap}
use Rattle.std.specs.List.{range_with_len}
use Rattle.cm_io.specs.Writing.{then_bytes}
use Rattle.cm_dump_images.proofs.Pieces.{piece_wrote, piece_stopped}
use Rattle.cm_dump_images.proofs.image.save_image.Goals as goal

pub returns-in_err-write-clause-bytes : goal.returns-in_err-write-clause-bytes
returns-in_err-write-clause-bytes g c =
    let f = g.C.Cells.image_byte (g.C.Cells.bound_of c.args.table.now) (g.C.Cells.cells c.args.table.now) in
    let long : c.pieces.at + c.min.result - c.pieces.at ≡ c.min.result = omega arith in
    let is : c.as_slice.result.now ≡ map f (range_with_len c.pieces.at c.min.result) = c.as_slice.ensures.value ∙ c.gather.ensures.piece ∙ ap (λ (n : ℕ). map f (range_with_len c.pieces.at n)) long in
    let wrote = c.in_err-write.ensures.bytes in
    let within : c.pieces.at + c.min.result ≤ g.C.Cells.image_size (length (g.C.Cells.cells c.args.table.now)) (g.C.Cells.bound_of c.args.table.now) = search rules in
    piece_stopped f _ (g.O.Sink.state c.pieces.out).written _ c.pieces.at c.min.result _ _ within c.from_residual.ensures.0 c.pieces.invariant.bytes
    (wrote.0, wrote.1 ∙ ap (λ (xs : List ℕ). then_bytes (g.O.Sink.state c.pieces.out).written (take wrote.0 xs)) is)

pub pieces-preserved : goal.pieces-preserved
pieces-preserved g c =
    let f = g.C.Cells.image_byte (g.C.Cells.bound_of c.args.table.now) (g.C.Cells.cells c.args.table.now) in
    let long : c.pieces.at + c.min.result - c.pieces.at ≡ c.min.result = omega arith in
    let is : c.as_slice.result.now ≡ map f (range_with_len c.pieces.at c.min.result) = c.as_slice.ensures.value ∙ c.gather.ensures.piece ∙ ap (λ (n : ℕ). map f (range_with_len c.pieces.at n)) long in
    record {
      quiet = search rules;
      within = search rules;
      bytes = piece_wrote f _ (g.O.Sink.state c.pieces.out).written _ c.pieces.at c.min.result c.pieces.invariant.bytes
          (c.in_ok-write.ensures.bytes ∙ ap (λ (xs : List ℕ). then_bytes (g.O.Sink.state c.pieces.out).written xs) is);
    }
