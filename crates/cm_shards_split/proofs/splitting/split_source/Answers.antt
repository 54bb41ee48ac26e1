use Rattle.std.proofs.Common.{◌≡◌, ◌∙◌, List, ℕ, Option, ap, sym, subst}
use Rattle.std.specs.Option.{option_map}
use Rattle.cm_io.specs.Files.{Files}
use Rattle.cm_keys.specs.Streams.{told_by}
use Rattle.cm_shards_split.specs.Leaves.{IsToldOf, LeavesLines, plan_of}
use Rattle.cm_shards_split.specs.Outcomes.{told_of}
use Rattle.cm_shards_split.proofs.Ending.{source_left}
use Rattle.cm_shards_split.proofs.splitting.split_source.Goals as goal

pub returns-clause-leaves : goal.returns-clause-leaves
returns-clause-leaves g c =
    let job = c.args.job.now in
    let base = (g.D.Disk.state c.args.disk.now).files in
    let mid = (g.D.Disk.state c.split_lines-end.new.disk).files in
    let new = (g.D.Disk.state c.shut.new.self).files in
    let told = told_by c.new-lines.result in
    let parts = c.split_lines-end.new.parts in
    let end = c.split_lines-end.result in
    let path : c.as_str.result.now ≡ job.keys = c.as_str.ensures.bytes in
    let is : IsToldOf job base told = λ files known.
    let opened = c.in-Ok.ensures.reader files known in
    (opened.bytes, rw path at opened.there, c.new-lines.ensures.told ∙ ap (λ (s : Option (List ℕ)). option_map (told_of job) s) opened.tells) in
    let left : LeavesLines (plan_of job base) told parts mid end = subst (λ (b : Option Files). LeavesLines (plan_of job b) told parts mid end) c.open.ensures.files c.split_lines-end.ensures.leaves in
    source_left job base told parts new end is (subst (λ (n : Option Files). LeavesLines (plan_of job base) told parts n end) (sym c.shut.ensures.files) left)
