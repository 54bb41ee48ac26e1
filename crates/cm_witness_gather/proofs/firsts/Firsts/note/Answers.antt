use Rattle.std.proofs.Common.{◌≡◌, ◌∙◌, ℕ, List, None, Some, [], ◌∷◌, ◌++◌, sym, ap, subst}
use Rattle.cm_witness_gather.specs.Noted.{noted_in}
use Rattle.cm_witness_gather.specs.Pairs.{first_line}
use Rattle.cm_witness_gather.specs.Tables.{Takes}
use Rattle.cm_witness_gather.proofs.NotedLemmas.{found_in, found_after, found_again, found_before, found_behind, noted_between, noted_behind, still_none}
use Rattle.cm_witness_gather.proofs.firsts.Firsts.note.Goals as goal

pub returns-then-takes-clause-first : goal.returns-then-takes-clause-first
returns-then-takes-clause-first c =
    let self = c.self.inside in
    let key = c.args.key.now in
    sym (found_behind self.table.keys (noted_in self.rest.entries) key c.in_ok-add.ensures.none ∙ c.self.invariant key (c.takes.ensures.takes c.if-takes.true))
    ∙ ap (λ (l : List (ℕ × List ℕ)). first_line l key) c.self.view_is

pub returns-then-takes-clause-noted : goal.returns-then-takes-clause-noted
returns-then-takes-clause-noted c = λ other.
    let self = c.self.inside in
    let key = c.args.key.now in
    let one = (c.args.line, key) ∷ [] in
    ap (λ (l : List (ℕ × List ℕ)). first_line (l ++ noted_in self.rest.entries) other) c.in_ok-add.ensures.added
    ∙ noted_between self.table.keys (noted_in self.rest.entries) c.args.line key (c.self.invariant key (c.takes.ensures.takes c.if-takes.true)) other
    ∙ ap (λ (l : List (ℕ × List ℕ)). first_line (l ++ one) other) c.self.view_is

pub returns-in-Some-clause-first : goal.returns-in-Some-clause-first
returns-in-Some-clause-first c =
    let self = c.self.inside in
    let key = c.args.key.now in
    sym (found_before self.table.keys (noted_in self.rest.entries) key c.in-Some.first (sym c.line_of.ensures ∙ c.in-Some.is))
    ∙ ap (λ (l : List (ℕ × List ℕ)). first_line l key) c.self.view_is

pub returns-in-Some-clause-noted : goal.returns-in-Some-clause-noted
returns-in-Some-clause-noted c = λ other.
    let self = c.self.inside in
    let key = c.args.key.now in
    let found : first_line c.args.self.now key ≡ Some c.in-Some.first =
    sym (ap (λ (l : List (ℕ × List ℕ)). first_line l key) c.self.view_is)
    ∙ found_before self.table.keys (noted_in self.rest.entries) key c.in-Some.first (sym c.line_of.ensures ∙ c.in-Some.is) in
    found_again c.args.self.now c.args.line c.in-Some.first key found other

pub returns-in-Some-get-clause-first : goal.returns-in-Some-get-clause-first
returns-in-Some-get-clause-first c =
    let self = c.self.inside in
    let key = c.args.key.now in
    c.in-Some-get.ensures.value
    ∙ found_in self.rest.entries key
    ∙ sym (found_behind self.table.keys (noted_in self.rest.entries) key (sym c.line_of.ensures ∙ c.in_default.is))
    ∙ ap (λ (l : List (ℕ × List ℕ)). first_line l key) c.self.view_is

pub returns-in-Some-get-clause-noted : goal.returns-in-Some-get-clause-noted
returns-in-Some-get-clause-noted c = λ other.
    let self = c.self.inside in
    let key = c.args.key.now in
    let found : Some c.in-Some-get.first.now ≡ first_line c.args.self.now key =
    c.in-Some-get.ensures.value
    ∙ found_in self.rest.entries key
    ∙ sym (found_behind self.table.keys (noted_in self.rest.entries) key (sym c.line_of.ensures ∙ c.in_default.is))
    ∙ ap (λ (l : List (ℕ × List ℕ)). first_line l key) c.self.view_is in
    found_again c.args.self.now c.args.line c.in-Some-get.first.now key (sym found) other

pub invariant_of-self-2 : goal.invariant_of-self-2
invariant_of-self-2 c = λ other takes.
    let old = c.self.inside.rest in
    let key = c.in_ok-from_slice.field-0 in
    let copied : key.items ≡ c.args.key.now = c.in_ok-from_slice.ensures.items in
    let none : first_line (noted_in old.entries) key.items ≡ None = ap (λ (l : List ℕ). first_line (noted_in old.entries) l) copied ∙ sym (c.in_default-get.ensures.value ∙ found_in old.entries c.args.key.now) in
    still_none (noted_in old.entries) (noted_in c.insert.new.self.entries) c.args.line key.items other
    (found_after old c.insert.new.self key c.args.line c.in_ok-insert.ensures.updates none other)
    (c.self.invariant other takes)
    (λ same. c.takes.ensures.full c.if-takes.false (subst (Takes c.self.inside.table) (sym same ∙ copied) takes))

pub returns-clause-first : goal.returns-clause-first
returns-clause-first c =
    let self = c.self.inside in
    let key = c.args.key.now in
    c.in_default-get.ensures.value
    ∙ found_in self.rest.entries key
    ∙ sym (found_behind self.table.keys (noted_in self.rest.entries) key (sym c.line_of.ensures ∙ c.in_default.is))
    ∙ ap (λ (l : List (ℕ × List ℕ)). first_line l key) c.self.view_is

pub returns-clause-noted : goal.returns-clause-noted
returns-clause-noted c = λ other.
    let self = c.self.inside in
    let old = self.rest in
    let key = c.in_ok-from_slice.field-0 in
    let copied : key.items ≡ c.args.key.now = c.in_ok-from_slice.ensures.items in
    let none : first_line (noted_in old.entries) key.items ≡ None = ap (λ (l : List ℕ). first_line (noted_in old.entries) l) copied ∙ sym (c.in_default-get.ensures.value ∙ found_in old.entries c.args.key.now) in
    noted_behind self.table.keys (noted_in old.entries) (noted_in c.insert.new.self.entries) (c.args.line, key.items) other (found_after old c.insert.new.self key c.args.line c.in_ok-insert.ensures.updates none other)
    ∙ ap (λ (l : List ℕ). first_line ((self.table.keys ++ noted_in old.entries) ++ (c.args.line, l) ∷ []) other) copied
    ∙ ap (λ (l : List (ℕ × List ℕ)). first_line (l ++ (c.args.line, c.args.key.now) ∷ []) other) c.self.view_is
