use Rattle.std.proofs.Common.{◌∙◌, ◌∷◌, ◌++◌, [], ℕ, List, refl, subst}
use Rattle.cm_io.specs.declared.key_pass.TheConstants.{MAX_KEY_LEN}
use Rattle.cm_spec.specs.declared.limits.TheConstants.{MAX_KEYS}
use Rattle.cm_keys.specs.LinePass.{HasGiven, LinePass}
use Rattle.cm_keys.proofs.FourLemmas.{AreNext, first_at_hand, four_given, four_read, last_passed, others_next}
use Rattle.cm_keys.proofs.GivenLemmas.{one_by_one}
use Rattle.cm_keys.proofs.keys.KeysKeyPass.hash_four.Goals as goal

pub pass-requires-clause-stands : goal.pass-requires-clause-stands
pass-requires-clause-stands g c =
    let four = c.in-Some.four in
    let many = c.may_give_many.ensures in
    let may = c.if-not-may_give_many.false in
    let lines = four.0.now ∷ four.1.now ∷ four.2.now ∷ four.3.now ∷ [] in
    let all = subst (λ (pass : LinePass). AreNext MAX_KEYS MAX_KEY_LEN pass lines) c.self.view_is (record { within = many.within may; few = many.few may; begin = c.in-Some.ensures.lines }) in
    (four.0.now, first_at_hand _ _ _ _ _ all, refl)

pub pass-requires-2-clause-stands : goal.pass-requires-2-clause-stands
pass-requires-2-clause-stands g c =
    let four = c.in-Some.four in
    let many = c.may_give_many.ensures in
    let may = c.if-not-may_give_many.false in
    let lines = four.0.now ∷ four.1.now ∷ four.2.now ∷ four.3.now ∷ [] in
    let all = subst (λ (pass : LinePass). AreNext MAX_KEYS MAX_KEY_LEN pass lines) c.self.view_is (record { within = many.within may; few = many.few may; begin = c.in-Some.ensures.lines }) in
    let three = others_next _ _ _ c.pass.new.self _ _ all c.pass.ensures.counts c.pass.ensures.first c.pass.ensures.end c.pass.ensures.waiting in
    (four.1.now, first_at_hand _ _ _ _ _ three, refl)

pub pass-requires-3-clause-stands : goal.pass-requires-3-clause-stands
pass-requires-3-clause-stands g c =
    let four = c.in-Some.four in
    let many = c.may_give_many.ensures in
    let may = c.if-not-may_give_many.false in
    let lines = four.0.now ∷ four.1.now ∷ four.2.now ∷ four.3.now ∷ [] in
    let all = subst (λ (pass : LinePass). AreNext MAX_KEYS MAX_KEY_LEN pass lines) c.self.view_is (record { within = many.within may; few = many.few may; begin = c.in-Some.ensures.lines }) in
    let three = others_next _ _ _ c.pass.new.self _ _ all c.pass.ensures.counts c.pass.ensures.first c.pass.ensures.end c.pass.ensures.waiting in
    let two = others_next _ _ _ c.pass-2.new.self _ _ three c.pass-2.ensures.counts c.pass-2.ensures.first c.pass-2.ensures.end c.pass-2.ensures.waiting in
    (four.2.now, first_at_hand _ _ _ _ _ two, refl)

pub pass-requires-4-clause-stands : goal.pass-requires-4-clause-stands
pass-requires-4-clause-stands g c =
    let four = c.in-Some.four in
    let many = c.may_give_many.ensures in
    let may = c.if-not-may_give_many.false in
    let lines = four.0.now ∷ four.1.now ∷ four.2.now ∷ four.3.now ∷ [] in
    let all = subst (λ (pass : LinePass). AreNext MAX_KEYS MAX_KEY_LEN pass lines) c.self.view_is (record { within = many.within may; few = many.few may; begin = c.in-Some.ensures.lines }) in
    let three = others_next _ _ _ c.pass.new.self _ _ all c.pass.ensures.counts c.pass.ensures.first c.pass.ensures.end c.pass.ensures.waiting in
    let two = others_next _ _ _ c.pass-2.new.self _ _ three c.pass-2.ensures.counts c.pass-2.ensures.first c.pass-2.ensures.end c.pass-2.ensures.waiting in
    let one = others_next _ _ _ c.pass-3.new.self _ _ two c.pass-3.ensures.counts c.pass-3.ensures.first c.pass-3.ensures.end c.pass-3.ensures.waiting in
    (four.3.now, first_at_hand _ _ _ _ _ one, refl)

pub returns-clause-gives : goal.returns-clause-gives
returns-clause-gives g c = λ told is.
    let four = c.in-Some.four in
    let many = c.may_give_many.ensures in
    let may = c.if-not-may_give_many.false in
    let lines = four.0.now ∷ four.1.now ∷ four.2.now ∷ four.3.now ∷ [] in
    let all = subst (λ (pass : LinePass). AreNext MAX_KEYS MAX_KEY_LEN pass lines) c.self.view_is (record { within = many.within may; few = many.few may; begin = c.in-Some.ensures.lines }) in
    let three = others_next _ _ _ c.pass.new.self _ _ all c.pass.ensures.counts c.pass.ensures.first c.pass.ensures.end c.pass.ensures.waiting in
    let two = others_next _ _ _ c.pass-2.new.self _ _ three c.pass-2.ensures.counts c.pass-2.ensures.first c.pass-2.ensures.end c.pass-2.ensures.waiting in
    let one = others_next _ _ _ c.pass-3.new.self _ _ two c.pass-3.ensures.counts c.pass-3.ensures.first c.pass-3.ensures.end c.pass-3.ensures.waiting in
    let is_2 = c.pass.ensures.told ∙ is in
    let is_3 = c.pass-2.ensures.told ∙ is_2 in
    let is_4 = c.pass-3.ensures.told ∙ is_3 in
    let s = c.args.seed in
    four_given told s _ _ _ _ _ four.0.now four.1.now four.2.now four.3.now _ (c.pass.ensures.gives four.0.now (first_at_hand _ _ _ _ _ all) refl told is) (c.pass-2.ensures.gives four.1.now (first_at_hand _ _ _ _ _ three) refl told is_2)
    (c.pass-3.ensures.gives four.2.now (first_at_hand _ _ _ _ _ two) refl told is_3) (c.pass-4.ensures.gives four.3.now (first_at_hand _ _ _ _ _ one) refl told is_4)
    (four_read c.words_of_four-four.result four.0.now four.1.now four.2.now four.3.now (s ∷ s ∷ s ∷ s ∷ []) _ _ _ _ c.words_of_four-four.ensures.words c.at.ensures.words c.at-2.ensures.words c.at-3.ensures.words c.at-4.ensures.words)

pub returns-clause-line : goal.returns-clause-line
returns-clause-line g c = λ told is.
    let four = c.in-Some.four in
    let many = c.may_give_many.ensures in
    let may = c.if-not-may_give_many.false in
    let lines = four.0.now ∷ four.1.now ∷ four.2.now ∷ four.3.now ∷ [] in
    let all = subst (λ (pass : LinePass). AreNext MAX_KEYS MAX_KEY_LEN pass lines) c.self.view_is (record { within = many.within may; few = many.few may; begin = c.in-Some.ensures.lines }) in
    let three = others_next _ _ _ c.pass.new.self _ _ all c.pass.ensures.counts c.pass.ensures.first c.pass.ensures.end c.pass.ensures.waiting in
    let two = others_next _ _ _ c.pass-2.new.self _ _ three c.pass-2.ensures.counts c.pass-2.ensures.first c.pass-2.ensures.end c.pass-2.ensures.waiting in
    let one = others_next _ _ _ c.pass-3.new.self _ _ two c.pass-3.ensures.counts c.pass-3.ensures.first c.pass-3.ensures.end c.pass-3.ensures.waiting in
    let is_4 = c.pass-3.ensures.told ∙ (c.pass-2.ensures.told ∙ (c.pass.ensures.told ∙ is)) in
    last_passed told _ _ _ _ (c.pass-4.ensures.gives four.3.now (first_at_hand _ _ _ _ _ one) refl told is_4) c.pass-4.ensures.counts

pub returns-clause-gave : goal.returns-clause-gave
returns-clause-gave g c = λ keys gave.
    let four = c.in-Some.four in
    let many = c.may_give_many.ensures in
    let may = c.if-not-may_give_many.false in
    let lines = four.0.now ∷ four.1.now ∷ four.2.now ∷ four.3.now ∷ [] in
    let all = subst (λ (pass : LinePass). AreNext MAX_KEYS MAX_KEY_LEN pass lines) c.self.view_is (record { within = many.within may; few = many.few may; begin = c.in-Some.ensures.lines }) in
    let three = others_next _ _ _ c.pass.new.self _ _ all c.pass.ensures.counts c.pass.ensures.first c.pass.ensures.end c.pass.ensures.waiting in
    let two = others_next _ _ _ c.pass-2.new.self _ _ three c.pass-2.ensures.counts c.pass-2.ensures.first c.pass-2.ensures.end c.pass-2.ensures.waiting in
    let one = others_next _ _ _ c.pass-3.new.self _ _ two c.pass-3.ensures.counts c.pass-3.ensures.first c.pass-3.ensures.end c.pass-3.ensures.waiting in
    let s = c.args.seed in
    let p : ℕ × List ℕ = (c.pass.new.self.given, four.0.now) in
    let q : ℕ × List ℕ = (c.pass-2.new.self.given, four.1.now) in
    let r : ℕ × List ℕ = (c.pass-3.new.self.given, four.2.now) in
    let t : ℕ × List ℕ = (c.pass-4.new.self.given, four.3.now) in
    let gave_one = c.pass.ensures.gave keys four.0.now gave (first_at_hand _ _ _ _ _ all) refl in
    let gave_two = c.pass-2.ensures.gave (keys ++ p ∷ []) four.1.now gave_one (first_at_hand _ _ _ _ _ three) refl in
    let gave_three = c.pass-3.ensures.gave ((keys ++ p ∷ []) ++ q ∷ []) four.2.now gave_two (first_at_hand _ _ _ _ _ two) refl in
    let gave_four = c.pass-4.ensures.gave (((keys ++ p ∷ []) ++ q ∷ []) ++ r ∷ []) four.3.now gave_three (first_at_hand _ _ _ _ _ one) refl in (
      p ∷ q ∷ r ∷ t ∷ [],
      four_read c.words_of_four-four.result four.0.now four.1.now four.2.now four.3.now (s ∷ s ∷ s ∷ s ∷ []) _ _ _ _ c.words_of_four-four.ensures.words c.at.ensures.words c.at-2.ensures.words c.at-3.ensures.words c.at-4.ensures.words,
      subst (λ (given : List (ℕ × List ℕ)). HasGiven MAX_KEYS MAX_KEY_LEN c.pass-4.new.self given) (one_by_one keys p q r t) gave_four,
    )
