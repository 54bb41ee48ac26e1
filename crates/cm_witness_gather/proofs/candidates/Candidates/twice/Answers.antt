use Rattle.std.proofs.Common.{◌≡◌, ◌∙◌, List, length, ap, arith}
use Rattle.cm_witness_gather.specs.Candidates.{is_twice, word_of}
use Rattle.cm_witness_gather.specs.declared.candidates.Hits.{Hits}
use Rattle.cm_witness_gather.proofs.MarkLemmas.{twice_read}
use Rattle.cm_witness_gather.proofs.candidates.Candidates.twice.Goals as goal

pub returns : goal.returns
returns g c =
    let words = c.self.inside.words in
    let many : c.len.result ≡ length words.items = omega (arith, words.ok.0) in
    twice_read words.items c.slot_of-word.result.0 c.slot_of-word.result.1 c.index.result.now c.args.ends (omega arith) c.index.ensures
    (c.slot_of-word.ensures.word ∙ ap (λ n. word_of n c.args.ends) many) c.slot_of-word.ensures.bits
    ∙ ap (λ (l : List Hits). is_twice l c.args.ends) c.self.view_is
