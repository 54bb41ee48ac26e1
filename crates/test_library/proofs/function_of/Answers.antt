use Rattle.std.proofs.Common.{rules, refl}
use Rattle.cm_lib.specs.Terms.{Bdz}
use Rattle.test_library.proofs.function_of.Goals as goal

-- what was built is a function of the keys, whose numbers are below its span, the number of keys
pub returns-clause-numbers : goal.returns-clause-numbers
returns-clause-numbers g c = λ told is.
    let law = c.keys_have_numbers.ensures in
    let made = c.in_ok-function.ensures.made _ refl told is in
    rw (law.span Bdz _ told _ _ _ (search rules) made) at (law.apart Bdz _ told _ _ _ (search rules) (search rules) made)
