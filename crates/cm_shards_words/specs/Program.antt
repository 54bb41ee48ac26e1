-- The name of the program, with which each of its messages begins.
use Rattle.std.specs.Prelude.{ℕ, List, codes}

abbrev pub program : List ℕ
program = codes "cmph_shards"
