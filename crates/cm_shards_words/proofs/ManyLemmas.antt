-- An argument that may be given again, added to a command.
use Rattle.std.proofs.Common.{◌≡◌, ◌∙◌, Some, false, true, ap}
use Rattle.clap.specs.Words.{AddsArg, Rule, Text, app_of, new_rule, rule_of}
use Rattle.clap.specs.declared.builder.action.ArgAction.TheVariants.{Append}
use Rattle.clap.specs.declared.builder.arg.Arg.{Arg}
use Rattle.clap.specs.declared.builder.command.Command.{Command}
use Rattle.cm_shards_words.specs.Command.{files_rule}
use Rattle.cm_words_arguments.specs.Command.{with_argument}

pub many_added : {old new : Command} {fresh needed arg : Arg} {id : Text} → needed ≡ record fresh { required = true } → arg ≡ record needed { action = Some Append }
    → fresh.global ≡ false → rule_of fresh ≡ new_rule id → AddsArg old arg new → app_of new ≡ with_argument (app_of old) (files_rule id)
unfolding with_argument
many_added {old = old} named is local fresh_is adds =
    let same = is ∙ ap (λ (a : Arg). record a { action = Some Append }) named in
    adds.shape (ap (λ (a : Arg). a.global) same ∙ local)
    ∙ ap (λ (r : Rule). with_argument (app_of old) r) (ap rule_of same ∙ ap (λ (r : Rule). record r { required = true; action = Some Append }) fresh_is)
