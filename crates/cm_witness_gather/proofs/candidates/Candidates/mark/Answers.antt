use Rattle.std.proofs.Common.{◌≡◌, ◌∙◌, List, length, true, ap, arith, subst, sym}
use Rattle.cm_witness_gather.specs.Candidates.{is_once, is_twice, word_of}
use Rattle.cm_witness_gather.specs.declared.candidates.Hits.{Hits}
use Rattle.cm_witness_gather.proofs.MarkLemmas.{mark_keeps_once, mark_keeps_twice, mark_sets_once, mark_sets_twice}
use Rattle.cm_witness_gather.proofs.candidates.Candidates.mark.Goals as goal

pub returns-clause-kept_once : goal.returns-clause-kept_once
returns-clause-kept_once g c = λ other was.
    let words = c.self.inside.words in
    mark_keeps_once words.items c.slot_of-word.result.0 c.slot_of-word.result.1 c.index_mut-hits.result.now (omega (arith, words.ok.0)) c.index_mut-hits.ensures.value other
    (subst (λ (l : List Hits). is_once l other ≡ true) (sym c.self.view_is) was)

pub returns-clause-kept_twice : goal.returns-clause-kept_twice
returns-clause-kept_twice g c = λ other was.
    let words = c.self.inside.words in
    mark_keeps_twice words.items c.slot_of-word.result.0 c.slot_of-word.result.1 c.index_mut-hits.result.now (omega (arith, words.ok.0)) c.index_mut-hits.ensures.value other
    (subst (λ (l : List Hits). is_twice l other ≡ true) (sym c.self.view_is) was)

pub returns-clause-once : goal.returns-clause-once
returns-clause-once g c =
    let words = c.self.inside.words in
    let many : c.len.result ≡ length words.items = omega (arith, words.ok.0) in
    mark_sets_once words.items c.slot_of-word.result.0 c.slot_of-word.result.1 c.index_mut-hits.result.now c.args.ends (omega arith)
    (c.slot_of-word.ensures.word ∙ ap (λ n. word_of n c.args.ends) many) c.slot_of-word.ensures.bits

pub returns-clause-twice : goal.returns-clause-twice
returns-clause-twice g c = λ was.
    let words = c.self.inside.words in
    let many : c.len.result ≡ length words.items = omega (arith, words.ok.0) in
    mark_sets_twice words.items c.slot_of-word.result.0 c.slot_of-word.result.1 c.index_mut-hits.result.now c.args.ends (omega arith) c.index_mut-hits.ensures.value
    (c.slot_of-word.ensures.word ∙ ap (λ n. word_of n c.args.ends) many) c.slot_of-word.ensures.bits
    (subst (λ (l : List Hits). is_once l c.args.ends ≡ true) (sym c.self.view_is) was)
