use Rattle.std.proofs.Common.{◌≡◌, ◌∙◌, ◌+◌, ℕ, ap, sym, take, arith, ◌-◌, lit<}
use Rattle.std.proofs.lemmas.Str.Pattern.{rfind_char}
use Rattle.cm_shards_manifest.specs.Paths.{folder_len, folder_of}
use Rattle.cm_shards_manifest.proofs.FolderLemmas.{folder_known, no_folder}
use Rattle.cm_shards_manifest.proofs.paths.folder_of.Goals as goal

pub returns-in-Some : goal.returns-in-Some
unfolding folder_of
returns-in-Some c =
    let path = c.args.path.now in
    let found = rw c.in-Some.is at (rfind_char 47 path c.rfind.result c.rfind.ensures.cases (lit< tt)) in
    let len : folder_len path ≡ c.in-Some.at + 1 = folder_known path c.in-Some.at found.0 found.1 found.2 in
    let all : c.in-Some.at + 1 - 0 ≡ folder_len path = omega (arith, len) in
    record { folder = c.range.ensures.value ∙ ap (λ (n : ℕ). take n path) all }

pub returns-in-None : goal.returns-in-None
unfolding folder_of
returns-in-None c =
    let path = c.args.path.now in
    let none = rw c.in-None.is at (rfind_char 47 path c.rfind.result c.rfind.ensures.cases (lit< tt)) in
    record { folder = ap (λ (n : ℕ). take n path) (sym (no_folder path none)) }
