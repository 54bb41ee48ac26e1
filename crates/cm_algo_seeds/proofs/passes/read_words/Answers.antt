use Rattle.std.proofs.Common.{◌∙◌, ap, ℕ, List, [], Err}
use Rattle.cm_io.specs.Passes.{Told, GivesKey}
use Rattle.cm_io.specs.declared.key_pass.KeyFault.{KeyFault}
use Rattle.cm_io.specs.declared.key_pass.KeyFault.TheVariants.{Read, TooLong, TooMany}
use Rattle.cm_spec.specs.Lookup2.{words as words_of}
use Rattle.cm_algo_seeds.proofs.passes.read_words.Goals as goal

-- a fault at the end of the keys is the same whatever line and key are beside it
same_fault : (told : Told) (before now line : ℕ) (key : List ℕ) (fault : KeyFault) → GivesKey told before now line key (Err fault) → GivesKey told before now 0 [] (Err fault)
same_fault told before now line key Read gives = gives
same_fault told before now line key (TooLong at) gives = gives
same_fault told before now line key TooMany gives = gives

pub returns-in-Ok-true-clause-gives : goal.returns-in-Ok-true-clause-gives
returns-in-Ok-true-clause-gives g c = λ told is.
    let gives = rw c.in-Ok-true.field-0-test at c.in-Ok-true.ensures.gives in (
      (g.P.KeyPass.last c.next.new.self, c.next.new.key.items),
      gives told is,
      c.words.ensures.words ∙ ap (λ (key : List ℕ). words_of key c.args.seed) c.as_slice.ensures.value,
    )

pub returns-in-Err-clause-gives : goal.returns-in-Err-clause-gives
returns-in-Err-clause-gives g c = λ told is.
    let P = g.P.KeyPass in
    same_fault told (P.place c.args.keys.now) (P.place c.next.new.self) (P.last c.next.new.self) c.next.new.key.items _ (c.in-Err.ensures.gives told is)

pub returns-in-Err-clause-cause : goal.returns-in-Err-clause-cause
returns-in-Err-clause-cause g c = c.in-Err.ensures.cause

pub returns-in-Err-clause-usable : goal.returns-in-Err-clause-usable
returns-in-Err-clause-usable g c = tt
