use Rattle.std.proofs.Common.{◌≡◌, ◌∙◌, ℕ, List, drop, Some, ap, sym}
use Rattle.std.specs.Cmp.Lexicographic.{bytes_decides}
use Rattle.std.proofs.lemmas.Bool.{false≢true}
use Rattle.std.proofs.lemmas.Option.{none-some, same_Some}
use Rattle.cm_store.proofs.Looking.{none_by, read_by}
use Rattle.cm_store.proofs.store.Store.look_at.Goals as goal
use Rattle.cm_store.specs.Stores.{Store, look}
use Rattle.cm_store_records.specs.Records.{Record, first_record}

pub returns-in_err-number : goal.returns-in_err-number
returns-in_err-number c = rw c.from_residual.ensures (record { value = none_by _ c.args.self.now c.args.number c.args.key.now c.self.view_is c.self.invariant.0 c.in_err-number.was c.requires.number })

pub unreachable-requires : goal.unreachable-requires
unreachable-requires c =
    let found = read_by _ c.args.self.now c.args.number c.in_ok-number.field-0 c.args.key.now c.get-at.result c.self.view_is c.self.invariant.0 c.in_ok-number.was c.requires.number c.requires.inside c.get-at.ensures in
    none-some found.begins (sym c.in_default.ensures.none ∙ ap (λ (l : List ℕ). first_record (drop c.get-at.result l)) c.deref.ensures.value ∙ found.is)

pub returns-then-eq : goal.returns-then-eq
returns-then-eq c =
    let found = read_by _ c.args.self.now c.args.number c.in_ok-number.field-0 c.args.key.now c.get-at.result c.self.view_is c.self.invariant.0 c.in_ok-number.was c.requires.number c.requires.inside c.get-at.ensures in
    let same : found.begins ≡ record { key = c.in-Some.record.key.now; value = c.in-Some.record.value.now } =
    same_Some _ _ (sym found.is ∙ ap (λ (l : List ℕ). first_record (drop c.get-at.result l)) (sym c.deref.ensures.value) ∙ c.in-Some.ensures.some) in
    let key : found.begins.key ≡ c.args.key.now = ap (λ (r : Record). r.key) same ∙ (bytes_decides c.in-Some.record.key.now c.args.key.now).0 (sym c.if-eq.ensures) in
    record { value = ap (λ (x : Store). look x c.args.key.now) (sym c.self.view_is) ∙ found.same key ∙ ap (λ (r : Record). Some r.value) same }

pub returns-else-eq : goal.returns-else-eq
returns-else-eq c =
    let found = read_by _ c.args.self.now c.args.number c.in_ok-number.field-0 c.args.key.now c.get-at.result c.self.view_is c.self.invariant.0 c.in_ok-number.was c.requires.number c.requires.inside c.get-at.ensures in
    let same : found.begins ≡ record { key = c.in-Some.record.key.now; value = c.in-Some.record.value.now } =
    same_Some _ _ (sym found.is ∙ ap (λ (l : List ℕ). first_record (drop c.get-at.result l)) (sym c.deref.ensures.value) ∙ c.in-Some.ensures.some) in
    let other = λ (key : found.begins.key ≡ c.args.key.now). false≢true (c.if-eq.ensures ∙ (bytes_decides c.in-Some.record.key.now c.args.key.now).1 (ap (λ (r : Record). r.key) (sym same) ∙ key)) in
    record { value = ap (λ (x : Store). look x c.args.key.now) (sym c.self.view_is) ∙ found.other other }
