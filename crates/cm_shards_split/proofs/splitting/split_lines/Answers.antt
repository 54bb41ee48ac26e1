use Rattle.std.proofs.Common.{◌≤◌, ℕ, [], replicate, arith, sym, subst}
use Rattle.cm_keys.specs.Streams.{told_by}
use Rattle.cm_route.specs.Routes.{Route}
use Rattle.cm_shards_split.specs.Leaves.{plan_of}
use Rattle.cm_shards_split.specs.Parts.{Written}
use Rattle.cm_shards_split.specs.Plans.{plan}
use Rattle.cm_shards_split.specs.Streaming.{EndsTo, IsSplitting, IsStreaming}
use Rattle.cm_shards_split.proofs.Ending.{lines_left, new_paths, streaming_new}
use Rattle.cm_shards_split.proofs.splitting.split_lines.Goals as goal

pub stream-requires-clause-splitting : goal.stream-requires-clause-splitting
stream-requires-clause-splitting g c =
    let job = c.args.job.now in
    let old = (g.D.Disk.state c.args.disk.now).files in
    let now = (g.D.Disk.state c.create_checked.new.disk).files in
    let few : job.shards ≤ 4096 = omega (arith, c.requires.job.shards.1) in
    let created = c.in-Ok.ensures.creates job.dir c.requires.counts (new_paths c.requires.new few) in
    let written : Written job.dir old (replicate job.shards []) now = subst (λ (n : ℕ). Written job.dir old (replicate n []) now) c.requires.new.many created in
    let streaming : IsStreaming (plan_of job old) c.args.lines.now c.args.parts.now now = streaming_new (plan_of job old) c.args.lines.now now c.requires.start c.requires.new few written in
    subst (λ (r : Route). IsSplitting r job.end c.args.lines.now c.args.parts.now now) (sym c.new-route.ensures.route) (record { dir = job.dir; base = old; streaming = streaming })

pub returns-clause-leaves : goal.returns-clause-leaves
returns-clause-leaves g c =
    let job = c.args.job.now in
    let old = (g.D.Disk.state c.args.disk.now).files in
    let now = (g.D.Disk.state c.create_checked.new.disk).files in
    let few : job.shards ≤ 4096 = omega (arith, c.requires.job.shards.1) in
    let created = c.in-Ok.ensures.creates job.dir c.requires.counts (new_paths c.requires.new few) in
    let written : Written job.dir old (replicate job.shards []) now = subst (λ (n : ℕ). Written job.dir old (replicate n []) now) c.requires.new.many created in
    let streaming : IsStreaming (plan_of job old) c.args.lines.now c.args.parts.now now = streaming_new (plan_of job old) c.args.lines.now now c.requires.start c.requires.new few written in
    let ends = c.stream.ensures.ends job.dir old (subst (λ (r : Route). IsStreaming (plan job.dir old r job.end) c.args.lines.now c.args.parts.now now) (sym c.new-route.ensures.route) streaming) in
    let after = (g.D.Disk.state c.stream.new.disk).files in
    let ended : EndsTo (plan_of job old) (told_by c.args.lines.now) c.stream.new.parts after c.stream.result = subst (λ (r : Route). EndsTo (plan job.dir old r job.end) (told_by c.args.lines.now) c.stream.new.parts after c.stream.result) c.new-route.ensures.route ends in
    lines_left (plan_of job old) (told_by c.args.lines.now) c.stream.new.parts after c.stream.result ended
