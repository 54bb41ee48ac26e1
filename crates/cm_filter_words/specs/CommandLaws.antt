-- What clap asks of a command, so that it states what it does by this one.
use Rattle.std.specs.Prelude.{◌≡◌, true, refl}
use Rattle.clap.specs.Words.{is_simple, is_simple_and_free}
use Rattle.clap.proofs.OnLiterals.{clap_on_literals}
use Rattle.cm_filter_words.specs.Command.{filter_app}
use Rattle.cm_words_arguments.specs.Command.{with_argument}

pub filter_app-simple : is_simple filter_app ≡ true
unfolding with_argument clap_on_literals
filter_app-simple = refl

pub filter_app-free : is_simple_and_free filter_app ≡ true
unfolding with_argument clap_on_literals
filter_app-free = refl
