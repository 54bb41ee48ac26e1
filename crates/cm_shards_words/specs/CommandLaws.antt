-- What clap asks of a command, so that it states what it does by this one.
use Rattle.std.specs.Prelude.{◌≡◌, true, refl}
use Rattle.clap.specs.Words.{is_simple, is_simple_and_free}
use Rattle.clap.proofs.OnLiterals.{clap_on_literals}
use Rattle.cm_shards_words.specs.Command.{shards_app}
use Rattle.cm_words_arguments.specs.Command.{with_argument}

pub shards_app-simple : is_simple shards_app ≡ true
unfolding with_argument clap_on_literals
shards_app-simple = refl

pub shards_app-free : is_simple_and_free shards_app ≡ true
unfolding with_argument clap_on_literals
shards_app-free = refl
