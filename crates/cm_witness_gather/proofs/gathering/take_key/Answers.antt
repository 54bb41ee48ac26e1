use Rattle.std.proofs.Common.{ℕ, List, ◌∷◌, [], ◌++◌, subst, sym}
use Rattle.std.proofs.lemmas.Result.{IfOk-weaker}
use Rattle.cm_witness_gather.specs.Noted.{AreNoted}
use Rattle.cm_witness_gather.proofs.GatherLemmas.{passed, taken}
use Rattle.cm_witness_gather.proofs.gathering.take_key.Goals as goal

pub returns-then-not-candidate-clause-gives : goal.returns-then-not-candidate-clause-gives
returns-then-not-candidate-clause-gives g c =
    let P = g.P.KeyPass in
    IfOk-weaker c.pass_key.result _ _ (λ line gives told is. passed told c.args.e (P.place c.args.keys.now) (P.place c.pass_key.new.keys) line c.args.candidate _ _ (sym c.requires.at) c.if-not-candidate.true (gives told is)) c.pass_key.ensures.gives

pub returns-clause-gives : goal.returns-clause-gives
returns-clause-gives g c = λ told is.
    let P = g.P.KeyPass in
    taken told c.args.e (P.place c.args.keys.now) (P.place c.read_key.new.keys) c.in_ok-line.line c.read_key.new.key.items c.args.candidate _ _ _ _ (sym c.requires.at) c.if-not-candidate.false
    (c.in_ok-line.ensures.gives told is)
    (λ earlier are. subst (λ (l : List ℕ). AreNoted (earlier ++ (c.in_ok-line.line, l) ∷ []) c.note.new.self.firsts c.note.new.self.pairs.items) c.deref.ensures.0 (c.in_ok-note.ensures earlier are))
