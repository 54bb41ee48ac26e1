-- What clap asks of a command, so that it states what it does by this one.
use Rattle.std.specs.Prelude.{◌≡◌, true, refl}
use Rattle.clap.specs.Words.{is_simple, is_simple_and_free}
use Rattle.clap.proofs.OnLiterals.{clap_on_literals}
use Rattle.cm_judge_words.specs.Command.{judge_app}
use Rattle.cm_words_arguments.specs.Command.{with_argument}

pub judge_app-simple : is_simple judge_app ≡ true
unfolding with_argument clap_on_literals
judge_app-simple = refl

pub judge_app-free : is_simple_and_free judge_app ≡ true
unfolding with_argument clap_on_literals
judge_app-free = refl
