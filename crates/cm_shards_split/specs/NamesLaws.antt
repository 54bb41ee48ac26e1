-- The paths of the files of a split differ.
use Rattle.std.proofs.Common.{◌≡◌, ◌≢◌, ◌∙◌, ℕ, ◌+◌, ◌/◌, ◌%◌, ◌<◌, List, [], ◌∷◌, ◌++◌, get_or, ap, sym, refl, arith}
use Rattle.std.specs.Path.{path_join, with_separator}
use Rattle.std.specs.Prelude.{codes}
use Rattle.std.proofs.lemmas.Fmt.{decimal_digit}
use Rattle.std.proofs.lemmas.List.{append_cancel_left}
use Rattle.std.proofs.lemmas.Paths.{path_join_relative}
use Rattle.cm_shards_split.specs.Names.{counts_path, shard_name, shard_path}

-- a digit of a number, counted from the last
abbrev pub digit : ℕ → ℕ → ℕ
digit scale k = 48 + k / scale % 10

-- the four digits of a number
abbrev pub four_digits : ℕ → List ℕ
four_digits k = digit 1000 k ∷ digit 100 k ∷ digit 10 k ∷ (48 + k % 10) ∷ []

-- the name of a shard, by the codes of its digits
pub shard_name_is : (k : ℕ) → shard_name k ≡ codes "shard-" ++ four_digits k
shard_name_is k = rw (decimal_digit (k / 1000 % 10) (omega arith), decimal_digit (k / 100 % 10) (omega arith), decimal_digit (k / 10 % 10) (omega arith), decimal_digit (k % 10) (omega arith)) refl

-- a number below 10,000 is that of its digits
by_digits : (i j : ℕ) → i < 10000 → j < 10000 → i / 1000 % 10 ≡ j / 1000 % 10 → i / 100 % 10 ≡ j / 100 % 10 → i / 10 % 10 ≡ j / 10 % 10 → i % 10 ≡ j % 10 → i ≡ j
by_digits i j below below_j a b c d = omega (arith, below, below_j, a, b, c, d)

-- a shard path, by its name
shard_path_is : (dir : List ℕ) (k : ℕ) → shard_path dir k ≡ with_separator dir ++ (codes "shard-" ++ four_digits k)
shard_path_is dir k = ap (path_join dir) (shard_name_is k) ∙ path_join_relative dir (codes "shard-" ++ four_digits k) (λ e. absurd (omega (arith, e)))

counts_path_is : (dir : List ℕ) → counts_path dir ≡ with_separator dir ++ codes "counts"
counts_path_is dir = path_join_relative dir (codes "counts") (λ e. absurd (omega (arith, e)))

-- two shards of one path are one shard
pub same_shard : (dir : List ℕ) (i j : ℕ) → i < 10000 → j < 10000 → shard_path dir i ≡ shard_path dir j → i ≡ j
same_shard dir i j below below_j e =
    let names : codes "shard-" ++ four_digits i ≡ codes "shard-" ++ four_digits j = append_cancel_left (with_separator dir) _ _ (sym (shard_path_is dir i) ∙ e ∙ shard_path_is dir j) in
    let at : (n : ℕ) → get_or (codes "shard-" ++ four_digits i) n 0 ≡ get_or (codes "shard-" ++ four_digits j) n 0 = λ n. ap (λ (l : List ℕ). get_or l n 0) names in
    let a : digit 1000 i ≡ digit 1000 j = at 6 in
    let b : digit 100 i ≡ digit 100 j = at 7 in
    let c : digit 10 i ≡ digit 10 j = at 8 in
    let d : 48 + i % 10 ≡ 48 + j % 10 = at 9 in
    by_digits i j below below_j (omega (arith, a)) (omega (arith, b)) (omega (arith, c)) (omega (arith, d))

-- the path of the counts is that of no shard
pub no_shard : (dir : List ℕ) (k : ℕ) → counts_path dir ≢ shard_path dir k
no_shard dir k e =
    let names : codes "counts" ≡ codes "shard-" ++ four_digits k = append_cancel_left (with_separator dir) _ _ (sym (counts_path_is dir) ∙ e ∙ shard_path_is dir k) in
    let first : 99 ≡ 115 = ap (λ (l : List ℕ). get_or l 0 0) names in
    absurd (omega (arith, first))
