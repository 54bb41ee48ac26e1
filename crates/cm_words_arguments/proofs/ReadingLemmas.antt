-- From what clap found of the arguments, or its fault, to what they mean.
use Rattle.std.specs.Prelude.{◌≡◌, ◌⊎◌, true, List, [], ◌∷◌, Ok, Err, IfErr, IfOk, IsErrAnd, refl, if◌then◌else◌}
use Rattle.std.proofs.Common.{◌∙◌, ap, sym, inl, inr}
use Rattle.clap.specs.Words.{App, HasKind, HasMatchesOf, IsAmong, Kinds, Row, Text, fault_of, found_of, is_simple, is_simple_and_free, kind_of, matches_of, rows_of}
use Rattle.clap.specs.declared.error.Error.{Error}
use Rattle.clap.specs.declared.error.kind.ErrorKind.{ErrorKind}
use Rattle.clap.specs.declared.error.kind.ErrorKind.TheVariants.{OutOfMemory}
use Rattle.clap.specs.declared.parser.matches.ArgMatches.{ArgMatches}
use Rattle.cm_words_arguments.specs.declared.fault.UsageFault.{UsageFault}
use Rattle.cm_words_arguments.specs.declared.fault.UsageFault.TheVariants.{Memory, Words}
use Rattle.cm_words_arguments.specs.Options.{Read}
use Rattle.cm_words_arguments.specs.Refusals.{fault_of_kind, is_refused, read_by}

among_some : (k : ErrorKind) (ks : Kinds) → IsAmong k ks → is_refused ks ≡ true
among_some k [] h = absurd h
among_some k (x ∷ xs) h = refl

fault_kinds : (k : ErrorKind) → (fault_of_kind k ≡ Memory) ⊎ (fault_of_kind k ≡ Words)
fault_kinds OutOfMemory = inl refl
fault_kinds _ = inr refl

-- the arguments that the command takes
pub read_by-ok : {A : Type 0} (meaning : List Row → Read A) (a app : App) (words : List Text) (m : ArgMatches) → a ≡ app → is_simple app ≡ true → is_simple_and_free app ≡ true
    → HasMatchesOf a words m → (is_simple_and_free a ≡ true → fault_of a words ≡ [])
    → meaning (rows_of (found_of m)) ≡ read_by app meaning words
read_by-ok {A} meaning a app words m is simple free has none =
    let rows = (has (ap is_simple is ∙ simple)).0 ∙ ap (λ (b : App). matches_of b words) is in
    let no_fault = sym (ap (λ (b : App). fault_of b words) is) ∙ none (ap is_simple_and_free is ∙ free) in
    ap meaning rows
    ∙ sym (ap (λ (ks : Kinds). let R : Read A = if is_refused ks then Err Words else meaning (matches_of app words) in R) no_fault)

-- the arguments that it doesn't take
pub read_by-err : {A : Type 0} (meaning : List Row → Read A) (a app : App) (words : List Text) (e : Error) → a ≡ app → is_simple_and_free app ≡ true
    → (is_simple_and_free a ≡ true → HasKind (fault_of a words) e)
    → (u : UsageFault) → u ≡ fault_of_kind (kind_of e)
    → (u ≡ Memory) ⊎ (let r : Read A = Err u in r ≡ read_by app meaning words)
read_by-err {A} meaning a app words e is free fails u made =
    elim (fails (ap is_simple_and_free is ∙ free)) [
      | inl memory ↦ inl (made ∙ ap fault_of_kind memory)
      | inr among ↦ elim (fault_kinds (kind_of e)) [
        | inl memory ↦ inl (made ∙ memory)
        | inr refused ↦
            let some = sym (ap (λ (b : App). is_refused (fault_of b words)) is) ∙ among_some (kind_of e) (fault_of a words) among in
            inr (ap (λ (w : UsageFault). let R : Read A = Err w in R) (made ∙ refused)
            ∙ sym (ap (λ b. let R : Read A = if b then Err Words else meaning (matches_of app words) in R) some))
      ]
    ]

pub err_of : {A : Type 0} (r : Read A) (Q P : UsageFault → Type 0) → IsErrAnd r Q → ((u : UsageFault) → Q u → P u) → IfErr r P
err_of (Ok x) Q P h g = absurd h
err_of (Err u) Q P h g = g u h

pub ok_along : {A : Type 0} (r x y : Read A) → x ≡ y → IfOk r (λ j. let a : Read A = Ok j in a ≡ x) → IfOk r (λ j. let a : Read A = Ok j in a ≡ y)
ok_along (Ok j) x y e h = h ∙ e
ok_along (Err u) x y e h = h

pub err_along : {A : Type 0} (r x y : Read A) → x ≡ y → IfErr r (λ u. (u ≡ Memory) ⊎ (let a : Read A = Err u in a ≡ x)) → IfErr r (λ u. (u ≡ Memory) ⊎ (let a : Read A = Err u in a ≡ y))
err_along (Ok j) x y e h = h
err_along (Err u) x y e h = elim h [ inl m ↦ inl m | inr g ↦ inr (g ∙ e) ]
