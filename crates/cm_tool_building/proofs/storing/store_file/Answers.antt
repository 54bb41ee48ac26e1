use Rattle.std.proofs.Common.{List, ℕ, take, inr}
use Rattle.cm_io.specs.FilesLaws.{is_there, holds, front_closed, holds_front}
use Rattle.cm_tool_building.proofs.storing.store_file.Goals as goal

pub close-requires : goal.close-requires
close-requires g c = record { there = is_there _ _ _ _ c.in_ok-writer.ensures.files }

pub close-requires-in-Err : goal.close-requires-in-Err
close-requires-in-Err g c = record { there = is_there _ _ _ _ c.in_ok-writer.ensures.files }

pub returns-in-Ok-close-clause-files : goal.returns-in-Ok-close-clause-files
returns-in-Ok-close-clause-files g c = holds _ _ (λ l. l) _ _ _ _ _ c.in_ok-writer.ensures.files c.in_ok-writer.ensures.writer c.in-Ok.ensures.bytes c.in-Ok-close.ensures.files

pub returns-in-Err-clause-files : goal.returns-in-Err-clause-files
returns-in-Err-clause-files g c =
    let bytes : List ℕ = g.S.Saved.bytes c.args.saved.now in
    let m = c.in-Err.ensures.bytes.0 in
    let closed = front_closed c.args.path.now (g.D.Writer.Sink.state c.save.new.out).written (g.D.Disk.state c.create.new.self).files _ c.close-in-Err.result c.close-in-Err.ensures.files in
    let n = closed.0 in
    inr (holds_front c.args.path.now bytes m n _ _
    (holds _ (take m bytes) (λ (l : List ℕ). take n l) _ _ _ _ _ c.in_ok-writer.ensures.files c.in_ok-writer.ensures.writer c.in-Err.ensures.bytes.1 closed.1))

pub returns-in-Err-close-clause-files : goal.returns-in-Err-close-clause-files
returns-in-Err-close-clause-files g c =
    let closed = c.in-Err-close.ensures.files in
    let n = closed.0 in
    inr (n, holds _ _ (λ (l : List ℕ). take n l) _ _ (g.D.Disk.state c.close.new.self).files _ _ c.in_ok-writer.ensures.files c.in_ok-writer.ensures.writer c.in-Ok.ensures.bytes closed.1)
