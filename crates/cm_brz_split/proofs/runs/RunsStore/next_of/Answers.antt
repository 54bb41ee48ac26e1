use Rattle.std.proofs.Common.{◌≡◌, ◌∙◌, ℕ, List, sym, ap}
use Rattle.std.specs.Prelude.{is_some}
use Rattle.std.proofs.lemmas.Result.{IfErr-weaker, IfOk-weaker, on_ok_weaker}
use Rattle.cm_brz_split.specs.SpilledLaws.{given_is, failed_only, given_record, where_known}
use Rattle.cm_spill.specs.Stores.{GivesNext, Holds, Store, given_of, left_of}
use Rattle.cm_spill.specs.declared.fault.SpillError.TheVariants.{Failed}
use Rattle.cm_brz_split.specs.Records.{Record}
use Rattle.cm_brz_split.proofs.runs.RunsStore.next_of.Goals as goal

pub returns-clause-gives : goal.returns-clause-gives
returns-clause-gives g c = λ records holds.
    let old = c.args.self.now in
    let now = c.next_of.new.self in
    let left = λ (puts : List Record) (given : ℕ). left_of puts c.args.bucket given in
    IfOk-weaker c.next_of.result _ _ (λ line gives.
    (let P = λ (puts : List Record). Holds old puts → GivesNext c.args.bucket (left puts (given_of old c.args.bucket)) (left puts now.given) c.next_of.new.key.items line in
    given_record records c.args.bucket _ _ _ _ line (where_known old.known ((puts : List Record) → P puts) holds.known gives records holds.held) (given_is now c.args.bucket (ap (λ (s : Store). s.bucket) c.next_of.ensures.state)))) c.next_of.ensures.gives

pub returns-clause-undamaged : goal.returns-clause-undamaged
returns-clause-undamaged g c = λ records holds.
    IfErr-weaker c.next_of.result _ _ (λ error sound.
    failed_only error (where_known c.args.self.now.known ((puts : List Record) → Holds c.args.self.now puts → error ≡ Failed) holds.known sound records holds.held)) c.next_of.ensures.sound

pub returns-clause-holds : goal.returns-clause-holds
returns-clause-holds g c = λ records holds.
    let state = c.next_of.ensures.state in
    on_ok_weaker c.next_of.result (λ held. record {
      known = ap (λ (s : Store). is_some s.known) state ∙ holds.known;
      held = held records holds.held;
      written = λ sealed. ap (λ (s : Store). s.waiting) state ∙ holds.written (sym (ap (λ (s : Store). s.sealed) state) ∙ sealed);
    }) c.next_of.ensures.holds
