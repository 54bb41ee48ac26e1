-- What is printed if arguments ask for the help or the version.
use Rattle.std.specs.Prelude.{ℕ, List, [], ◌∷◌, codes}
use Rattle.cm_io.specs.Writing.{joined}

abbrev pub help_text : List ℕ
help_text = joined (
    codes "usage: cmph [-v] [-h] [-V] [-z] [-k nkeys] [-f hash] [-g [-c c] [-s seed] [-r seeds]] [-a algorithm] [-M MB] [-b b] [-d dir] [-m file.mph] keysfile\n"
    ∷ codes "       cmph -T nkeys [-s seed] [-r seeds] [-M MB] [-d dir]\n"
    ∷ codes "       cmph -u [-m file.mph] [keysfile]\n"
    ∷ codes "algorithms: chm bdz bdz_ph brz\n"
    ∷ codes "hash functions: jenkins\n"
    ∷ [])

abbrev pub version_text : List ℕ
version_text = joined (codes "cmph 2\n" ∷ [])
