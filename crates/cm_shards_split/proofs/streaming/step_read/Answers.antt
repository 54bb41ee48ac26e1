use Rattle.std.proofs.Common.{◌≡◌, ◌+◌, List, ℕ, Bool, cond, Ok, sym, subst}
use Rattle.cm_keys.specs.Streams.{GivesLine}
use Rattle.cm_shards_split.specs.Plans.{plan}
use Rattle.cm_shards_split.proofs.Streamed.{HasRead, line_stopped, line_streamed, read_stopped}
use Rattle.cm_shards_split.proofs.streaming.step_read.Goals as goal

pub returns-in-Err-Read-clause-steps : goal.returns-in-Err-Read-clause-steps
returns-in-Err-Read-clause-steps g c = λ dir base streaming. read_stopped {p = plan dir base c.args.route.now c.args.end} _ streaming c.next.ensures.told

pub returns-in-Ok-clause-steps : goal.returns-in-Ok-clause-steps
returns-in-Ok-clause-steps g c = λ dir base streaming.
    let key : List ℕ = c.as_slice.result.now in
    let more : c.next.new.self.count ≡ c.args.lines.now.count + 1 = subst (λ (b : Bool). c.next.new.self.count ≡ c.args.lines.now.count + cond b 1 0) c.in-Ok-true.field-0-test c.in-Ok-true.ensures.counts in
    let read : HasRead c.args.lines.now c.next.new.self.count c.next.new.key.items = λ told is. subst (λ (b : Bool). GivesLine told c.args.lines.now.count c.next.new.self.count c.next.new.key.items (Ok b)) c.in-Ok-true.field-0-test (c.in-Ok-true.ensures.gives told is) in
    let gives : HasRead c.args.lines.now c.next.new.self.count key = subst (λ (k : List ℕ). HasRead c.args.lines.now c.next.new.self.count k) (sym c.as_slice.ensures.value) read in
    line_streamed {p = plan dir base c.args.route.now c.args.end} key streaming c.next.ensures.told more gives (c.in-Ok.ensures.puts dir base streaming.lines streaming.stands)

pub returns-in-Err-Memory-clause-steps : goal.returns-in-Err-Memory-clause-steps
returns-in-Err-Memory-clause-steps g c = λ dir base streaming.
    let key : List ℕ = c.as_slice.result.now in
    let read : HasRead c.args.lines.now c.next.new.self.count c.next.new.key.items = λ told is. subst (λ (b : Bool). GivesLine told c.args.lines.now.count c.next.new.self.count c.next.new.key.items (Ok b)) c.in-Ok-true.field-0-test (c.in-Ok-true.ensures.gives told is) in
    let gives : HasRead c.args.lines.now c.next.new.self.count key = subst (λ (k : List ℕ). HasRead c.args.lines.now c.next.new.self.count k) (sym c.as_slice.ensures.value) read in
    line_stopped {p = plan dir base c.args.route.now c.args.end} _ c.next.new.self.count key streaming c.next.ensures.told gives (c.in-Err-Memory.ensures.puts dir base streaming.lines streaming.stands)

pub returns-in-Err-Failed-clause-steps : goal.returns-in-Err-Failed-clause-steps
returns-in-Err-Failed-clause-steps g c = λ dir base streaming.
    let key : List ℕ = c.as_slice.result.now in
    let read : HasRead c.args.lines.now c.next.new.self.count c.next.new.key.items = λ told is. subst (λ (b : Bool). GivesLine told c.args.lines.now.count c.next.new.self.count c.next.new.key.items (Ok b)) c.in-Ok-true.field-0-test (c.in-Ok-true.ensures.gives told is) in
    let gives : HasRead c.args.lines.now c.next.new.self.count key = subst (λ (k : List ℕ). HasRead c.args.lines.now c.next.new.self.count k) (sym c.as_slice.ensures.value) read in
    line_stopped {p = plan dir base c.args.route.now c.args.end} _ c.next.new.self.count key streaming c.next.ensures.told gives (c.in-Err-Failed.ensures.puts dir base streaming.lines streaming.stands)
