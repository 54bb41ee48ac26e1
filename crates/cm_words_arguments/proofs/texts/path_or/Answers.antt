use Rattle.std.proofs.Common.{◌∙◌, ◌++◌, ℕ, List, ap}
use Rattle.cm_words_arguments.proofs.texts.path_or.Goals as goal

pub returns-in-Some : goal.returns-in-Some
returns-in-Some c = record { path = rw c.in-Some.is c.copy.ensures }

pub returns-in_ok-push_str-in-None : goal.returns-in_ok-push_str-in-None
returns-in_ok-push_str-in-None c = record { path = rw c.in-None.is (c.new.ensures.bytes ∙ c.in_ok-push_str-in-None.ensures.bytes ∙ ap (λ (path : List ℕ). path ++ c.args.ending.now) c.in_ok-path-in-None.ensures.ok) }
