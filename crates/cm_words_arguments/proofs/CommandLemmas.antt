-- The command, argument by argument.
use Rattle.std.proofs.Common.{◌≡◌, ◌∙◌, ℕ, ◌+◌, ◌<◌, Some, Bool, false, refl, sym, ap, List, [], ◌∷◌, ◌++◌, length, get_or, map, take}
use Rattle.std.proofs.lemmas.List.{map-append, take_more}
use Rattle.clap.specs.Words.{AddsArg, App, Rule, Text, app_of, new_rule, rule_of}
use Rattle.clap.specs.declared.builder.action.ArgAction.{ArgAction}
use Rattle.clap.specs.declared.builder.action.ArgAction.TheVariants.{Set}
use Rattle.clap.specs.declared.builder.arg.Arg.{Arg}
use Rattle.clap.specs.declared.builder.command.Command.{Command}
use Rattle.cm_words_arguments.specs.Command.{file_rule, option_rule, with_argument, with_arguments}

-- a command that was given an argument, by the argument's rule
added : {old new : Command} {arg : Arg} {rule : Rule} → arg.global ≡ false → rule_of arg ≡ rule → AddsArg old arg new → app_of new ≡ with_argument (app_of old) rule
unfolding with_argument
added {old = old} local is adds = adds.shape local ∙ ap (λ (r : Rule). with_argument (app_of old) r) is

pub option_added : {old new : Command} {fresh short arg : Arg} {id : Text} {letter : ℕ} {action : ArgAction} → short ≡ record fresh { short = Some letter } → arg ≡ record short { action = Some action }
    → fresh.global ≡ false → rule_of fresh ≡ new_rule id → AddsArg old arg new → app_of new ≡ with_argument (app_of old) (option_rule id letter action)
option_added {letter = letter} {action = action} named is local fresh_is adds =
    let same = is ∙ ap (λ (a : Arg). record a { action = Some action }) named in
    added (ap (λ (a : Arg). a.global) same ∙ local) (ap rule_of same ∙ ap (λ (r : Rule). record r { short = Some letter; action = Some action }) fresh_is) adds

pub file_added : {old new : Command} {fresh needed arg : Arg} {id : Text} {required : Bool} → needed ≡ record fresh { required = required } → arg ≡ record needed { action = Some Set }
    → fresh.global ≡ false → rule_of fresh ≡ new_rule id → AddsArg old arg new → app_of new ≡ with_argument (app_of old) (file_rule id required)
file_added {required = required} named is local fresh_is adds =
    let same = is ∙ ap (λ (a : Arg). record a { action = Some Set }) named in
    added (ap (λ (a : Arg). a.global) same ∙ local) (ap rule_of same ∙ ap (λ (r : Rule). record r { required = required; action = Some Set }) fresh_is) adds

-- one argument more, over the same command
pub along : {app old new : App} (rule : Rule) → app ≡ with_argument old rule → old ≡ new → app ≡ with_argument new rule
along rule is same = is ∙ ap (λ (a : App). with_argument a rule) same

-- the last argument of a list is added last
with_last : (app : App) (rules : List Rule) (rule : Rule) → with_arguments app (rules ++ rule ∷ []) ≡ with_argument (with_arguments app rules) rule
with_last app [] rule = refl
with_last app (first ∷ rules) rule = with_last (with_argument app first) rules rule

-- one option more of a list of them
pub option_more : {A : Type 0} (app old new : App) (rule : A → Rule) (options : List A) (i : ℕ) (d : A) → i < length options
    → old ≡ with_arguments app (map rule (take i options)) → new ≡ with_argument old (rule (get_or options i d)) → new ≡ with_arguments app (map rule (take (i + 1) options))
option_more app old new rule options i d inside before last =
    let split : map rule (take (i + 1) options) ≡ map rule (take i options) ++ rule (get_or options i d) ∷ [] =
    ap (map rule) (take_more options i d inside) ∙ map-append rule (take i options) (get_or options i d ∷ []) in
    along _ last before ∙ sym (with_last app (map rule (take i options)) (rule (get_or options i d))) ∙ sym (ap (with_arguments app) split)

pub all_along : (app old new : App) (rules : List Rule) → app ≡ with_arguments old rules → old ≡ new → app ≡ with_arguments new rules
all_along app old new rules is same = is ∙ ap (λ (a : App). with_arguments a rules) same
