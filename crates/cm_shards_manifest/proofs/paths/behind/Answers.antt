use Rattle.std.proofs.Common.{◌≡◌, ◌≢◌, ◌∙◌, ◌++◌, List, ℕ, Some, ap, sym, rules, length}
use Rattle.cm_shards_manifest.proofs.FolderLemmas.{behind_not, behind_there}
use Rattle.cm_shards_manifest.proofs.paths.behind.Goals as goal

pub returns-in-Some : goal.returns-in-Some
returns-in-Some c =
    let path = c.args.path.now in
    let folder = c.args.folder.now in
    let some : length folder ≢ 0 = search rules in
    let found = c.in-Some.ensures.cases in
    let begins : path ≡ folder ++ c.in-Some.rest.now = found.1.1 ∙ ap (λ (l : List ℕ). folder ++ l) (sym found.2) in
    record { rest = ap (λ (l : List ℕ). Some l) c.no_slashes.ensures.text ∙ sym (behind_there folder path c.in-Some.rest.now some begins) }

pub returns-in-None : goal.returns-in-None
returns-in-None c =
    let some : length c.args.folder.now ≢ 0 = search rules in
    record { rest = sym (behind_not c.args.folder.now c.args.path.now some c.in-None.ensures.cases) }
