-- What clap asks of a command, so that it states what it does by this one.
use Rattle.std.specs.Prelude.{◌≡◌, true, refl}
use Rattle.clap.specs.Words.{is_simple, is_simple_and_free}
use Rattle.clap.proofs.OnLiterals.{clap_on_literals}
use Rattle.cm_words.specs.Command.{cmph_app}
use Rattle.cm_words_arguments.specs.Command.{with_argument}

pub cmph_app-simple : is_simple cmph_app ≡ true
unfolding with_argument clap_on_literals
cmph_app-simple = refl

pub cmph_app-free : is_simple_and_free cmph_app ≡ true
unfolding with_argument clap_on_literals
cmph_app-free = refl
