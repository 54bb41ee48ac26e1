use Rattle.cm_algo_seeds.proofs.passes.add_at_hand.Goals as goal

pub returns-clause-adds : goal.returns-clause-adds
returns-clause-adds g c = λ _.
    let w = c.in-Some.ensures.words in (
      c.in-Some.next.0,
      c.add_key.ensures.edges,
      c.add_key.ensures.tags,
      λ told is. ((g.P.KeyPass.last c.pass.new.self, w.0), c.pass.ensures.gives w.0 w.1 w.2 told is, w.3),
    )
