use Rattle.std.proofs.Common.{◌≡◌, ◌∙◌, ℕ, Option, None, Some, [], ◌++◌, append-nil, sym, ap}
use Rattle.cm_witness_gather.specs.Pairs.{first_line, with_pair}
use Rattle.cm_witness_gather.proofs.NotedLemmas.{noted_more}
use Rattle.cm_witness_gather.proofs.firsts.EqualKeys.note.Goals as goal

pub returns-in_ok-push : goal.returns-in_ok-push
returns-in_ok-push c = λ earlier are.
    let found : Some c.in-Some.first ≡ first_line c.args.self.now.firsts c.args.key.now = sym c.in-Some.is ∙ c.in_ok-first.ensures.first in
    let paired = c.in_ok-push.ensures.items ∙ ap (λ (o : Option ℕ). c.args.self.now.pairs.items ++ with_pair o c.args.line []) found in
    noted_more earlier c.args.self.now.firsts c.note.new.self c.args.self.now.pairs.items c.push.new.self.items c.args.line c.args.key.now are c.in_ok-first.ensures.noted paired

pub returns-in_default : goal.returns-in_default
returns-in_default c = λ earlier are.
    let found : None ≡ first_line c.args.self.now.firsts c.args.key.now = sym c.in_default.is ∙ c.in_ok-first.ensures.first in
    let paired = sym (append-nil c.args.self.now.pairs.items) ∙ ap (λ (o : Option ℕ). c.args.self.now.pairs.items ++ with_pair o c.args.line []) found in
    noted_more earlier c.args.self.now.firsts c.note.new.self c.args.self.now.pairs.items c.args.self.now.pairs.items c.args.line c.args.key.now are c.in_ok-first.ensures.noted paired
