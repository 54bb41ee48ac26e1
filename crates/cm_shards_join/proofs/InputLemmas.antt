-- Arguments whose function files are read at the path of the manifest.
use Rattle.std.proofs.Common.{◌≡◌, ◌∙◌, ◌⊎◌, ℕ, ◌+◌, ◌<◌, ◌≤◌, List, length, drop, get_or, inl, inr, ap, sym, subst}
use Rattle.std.proofs.Math.ListN.{drop_of_length-le}
use Rattle.std.proofs.lemmas.List.{drop_more}
use Rattle.cm_shards_join.specs.Inputs.{ReadsManifest, path_for}

-- the next of them is, or one of those behind it
next_or : (manifest : List ℕ) (functions : List (List ℕ)) (i : ℕ) (f : List ℕ) → i < length functions → f ≡ get_or functions i f → ReadsManifest manifest (drop i functions) → (path_for manifest f ≡ manifest) ⊎ ReadsManifest manifest (drop (i + 1) functions)
next_or manifest functions i f inside is reads = go (subst (ReadsManifest manifest) (drop_more functions i f inside) reads)
  where
    go : (path_for manifest (get_or functions i f) ≡ manifest) ⊎ ReadsManifest manifest (drop (i + 1) functions) → (path_for manifest f ≡ manifest) ⊎ ReadsManifest manifest (drop (i + 1) functions)
    go (inl same) = inl (ap (path_for manifest) is ∙ same)
    go (inr rest) = inr rest

or_next : (manifest : List ℕ) (functions : List (List ℕ)) (i : ℕ) (f : List ℕ) → i < length functions → f ≡ get_or functions i f → (path_for manifest f ≡ manifest) ⊎ ReadsManifest manifest (drop (i + 1) functions) → ReadsManifest manifest (drop i functions)
or_next manifest functions i f inside is (inl same) = subst (ReadsManifest manifest) (sym (drop_more functions i f inside)) (inl (ap (path_for manifest) (sym is) ∙ same))
or_next manifest functions i f inside is (inr rest) = subst (ReadsManifest manifest) (sym (drop_more functions i f inside)) (inr rest)

-- the next is
pub reads_here : (manifest : List ℕ) (functions : List (List ℕ)) (i : ℕ) (f : List ℕ) → i < length functions → f ≡ get_or functions i f → path_for manifest f ≡ manifest → ReadsManifest manifest (drop i functions)
reads_here manifest functions i f inside is same = or_next manifest functions i f inside is (inl same)

-- the next isn't
pub reads_later : (manifest : List ℕ) (functions : List (List ℕ)) (i : ℕ) (f : List ℕ) → i < length functions → f ≡ get_or functions i f → ReadsManifest manifest (drop (i + 1) functions) → ReadsManifest manifest (drop i functions)
reads_later manifest functions i f inside is rest = or_next manifest functions i f inside is (inr rest)

pub later_reads : (manifest : List ℕ) (functions : List (List ℕ)) (i : ℕ) (f : List ℕ) → i < length functions → f ≡ get_or functions i f → (path_for manifest f ≡ manifest → ⊥) → ReadsManifest manifest (drop i functions) → ReadsManifest manifest (drop (i + 1) functions)
later_reads manifest functions i f inside is other reads = go (next_or manifest functions i f inside is reads)
  where
    go : (path_for manifest f ≡ manifest) ⊎ ReadsManifest manifest (drop (i + 1) functions) → ReadsManifest manifest (drop (i + 1) functions)
    go (inl same) = absurd (other same)
    go (inr rest) = rest

-- none is left
pub reads_none : (manifest : List ℕ) (functions : List (List ℕ)) (i : ℕ) → length functions ≤ i → ReadsManifest manifest (drop i functions) → ⊥
reads_none manifest functions i ended reads = subst (ReadsManifest manifest) (drop_of_length-le functions ended) reads
