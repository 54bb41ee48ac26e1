use Rattle.std.proofs.Common.{ℕ, sym, refl, subst}
use Rattle.cm_shards_split.specs.Plans.{plan}
use Rattle.cm_shards_split.proofs.Streamed.{HasRead, line_stopped, line_streamed}
use Rattle.cm_shards_split.proofs.streaming.step_buffered.Goals as goal

pub returns-in-Err-clause-steps : goal.returns-in-Err-clause-steps
returns-in-Err-clause-steps g c = λ dir base streaming.
    line_stopped {p = plan dir base c.args.route.now c.args.end} _ _ c.in-Some.line.now streaming refl c.in-Some.ensures.gives (c.in-Err.ensures.puts dir base streaming.lines streaming.stands)

pub returns-clause-steps : goal.returns-clause-steps
returns-clause-steps g c = λ dir base streaming.
    let gives : HasRead c.args.lines.now c.pass.new.self.count c.in-Some.line.now = subst (λ (n : ℕ). HasRead c.args.lines.now n c.in-Some.line.now) (sym c.pass.ensures.counts) c.in-Some.ensures.gives in
    line_streamed {p = plan dir base c.args.route.now c.args.end} c.in-Some.line.now streaming c.pass.ensures.told c.pass.ensures.counts gives (c.in-Ok.ensures.puts dir base streaming.lines streaming.stands)
