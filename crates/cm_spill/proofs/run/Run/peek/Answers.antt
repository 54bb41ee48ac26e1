use Rattle.std.proofs.Common.{arith, subst, sym, List, Option, Err}
use Rattle.cm_spill.specs.Records.{Record}
use Rattle.cm_spill.specs.Reading.{AreLeft, IsHeaderRead, Peeks, RunLeft}
use Rattle.cm_spill.specs.declared.header.Header.{Header}
use Rattle.cm_spill.specs.declared.fault.SpillError.{SpillError}
use Rattle.cm_spill.proofs.Leaving.{none_left, some_left}
use Rattle.cm_spill.proofs.run.Run.peek.Goals as goal

pub returns-then-self-clause-peeks : goal.returns-then-self-clause-peeks
returns-then-self-clause-peeks g c = λ x told records left.
    let was = subst (λ (v : RunLeft). AreLeft x v records) (sym c.self.view_is) left in
    none_left x _ records was (omega (arith, c.if-self.true))

pub returns-in-Ok-clause-left : goal.returns-in-Ok-clause-left
returns-in-Ok-clause-left g c = λ x told records left.
    let was = subst (λ (v : RunLeft). AreLeft x v records) (sym c.self.view_is) left in
    let s = some_left x _ records was (λ end. c.if-self.false end) in
    subst (λ (l : List Record). AreLeft x c.read_header.new.self l) (sym s.2) (c.in-Ok.ensures.left x told s.0 s.1 (subst (λ (l : List Record). AreLeft x c.args.self.now l) s.2 left))

pub returns-in-Ok-clause-peeks : goal.returns-in-Ok-clause-peeks
returns-in-Ok-clause-peeks g c = λ x told records left.
    let was = subst (λ (v : RunLeft). AreLeft x v records) (sym c.self.view_is) left in
    let s = some_left x _ records was (λ end. c.if-self.false end) in
    let now = subst (λ (l : List Record). AreLeft x c.read_header.new.self l) (sym s.2) (c.in-Ok.ensures.left x told s.0 s.1 (subst (λ (l : List Record). AreLeft x c.args.self.now l) s.2 left)) in
    (subst (λ (h : Option Header). IsHeaderRead records c.read_header.new.self h) c.in-Ok.ensures.header now.header).1

pub returns-in-Err-clause-peeks : goal.returns-in-Err-clause-peeks
returns-in-Err-clause-peeks g c = λ x told records left.
    let was = subst (λ (v : RunLeft). AreLeft x v records) (sym c.self.view_is) left in
    let s = some_left x _ records was (λ end. c.if-self.false end) in
    subst (λ (e : SpillError). Peeks records (Err e)) (sym (c.in-Err.ensures.left x told s.0 s.1 (subst (λ (l : List Record). AreLeft x c.args.self.now l) s.2 left))) tt
