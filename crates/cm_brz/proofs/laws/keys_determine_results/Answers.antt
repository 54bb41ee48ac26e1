use Rattle.cm_brz.proofs.Found.{all_overfull, cored_is, cored_shown, function_is, none_cored, overfull_is, overfull_shown}
use Rattle.cm_brz.proofs.Numbers.{some_keys}
use Rattle.cm_brz.proofs.laws.keys_determine_results.Goals as goal

pub returns-clause-function : goal.returns-clause-function
returns-clause-function c = function_is

pub returns-clause-none : goal.returns-clause-none
returns-clause-none c = none_cored

pub returns-clause-overfull : goal.returns-clause-overfull
returns-clause-overfull c = overfull_is

pub returns-clause-cored : goal.returns-clause-cored
returns-clause-cored c = cored_is

pub returns-clause-overfull_shown : goal.returns-clause-overfull_shown
returns-clause-overfull_shown c = overfull_shown

pub returns-clause-cored_shown : goal.returns-clause-cored_shown
returns-clause-cored_shown c = cored_shown

pub returns-clause-all : goal.returns-clause-all
returns-clause-all c = all_overfull

pub returns-clause-some : goal.returns-clause-some
returns-clause-some c = some_keys
