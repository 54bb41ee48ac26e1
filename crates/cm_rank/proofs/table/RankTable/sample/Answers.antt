use Rattle.std.proofs.Common.{◌∙◌, ℕ, ◌/◌, ◌^◌, ◌<◌, length, arith}
use Rattle.std.proofs.lemmas.List.{get_or_read}
use Rattle.cm_rank.proofs.RankLemmas.{step_is}
use Rattle.cm_rank.specs.RankLaws.{sample_is}
use Rattle.cm_rank.proofs.table.RankTable.sample.Goals as goal

pub index-requires : goal.index-requires
index-requires c =
    let there = rw (← c.self.view_is) at c.requires.there in
    rw (step_is c.self.inside.b c.self.invariant.0) (omega (arith, there))

pub returns : goal.returns
returns c =
    let block : ℕ = c.args.i / 2 ^ c.self.inside.b in
    let there : block < length c.self.inside.ranks.items = rw (← c.self.view_is) at c.requires.there in
    let read = get_or_read c.self.inside.ranks.items block c.index.result.now there (rw (step_is c.self.inside.b c.self.invariant.0) at c.index.ensures) 0 in
    rw (← c.self.view_is) (record { sample = read; cells = λ cells stands. read ∙ sample_is _ cells block stands there })
