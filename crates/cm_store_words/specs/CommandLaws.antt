-- What clap asks of a command, so that it states what it does by this one.
use Rattle.std.specs.Prelude.{◌≡◌, true, refl}
use Rattle.clap.specs.Words.{is_simple, is_simple_and_free}
use Rattle.clap.proofs.OnLiterals.{clap_on_literals}
use Rattle.cm_store_words.specs.Command.{store_app}
use Rattle.cm_words_arguments.specs.Command.{with_argument}

pub store_app-simple : is_simple store_app ≡ true
unfolding with_argument clap_on_literals
store_app-simple = refl

pub store_app-free : is_simple_and_free store_app ≡ true
unfolding with_argument clap_on_literals
store_app-free = refl
