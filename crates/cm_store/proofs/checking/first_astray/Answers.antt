use Rattle.std.proofs.Common.{◌∙◌, ◌+◌, ℕ, List, None, drop, slice_index_or, sym}
use Rattle.std.proofs.lemmas.List.{at_drop_all, at_drop_more}
use Rattle.cm_store.proofs.NumberLemmas.{astray_here, astray_next, astray_none}
use Rattle.cm_store.proofs.checking.first_astray.Goals as goal
use Rattle.cm_store.specs.Numbers.{astray_of}
use Rattle.cm_store.specs.declared.numbering.Numbered.{Numbered}

-- what is at an index past the end, which none is
abbrev d : Numbered
d = record { number = None; next = 0 }

pub returns-then-not-stands_at : goal.returns-then-not-stands_at
returns-then-not-stands_at c =
    let places : List ℕ = c.args.places.now.items.items in
    let l = c.records in
    record {
      astray = sym (
          l.invariant.rest
          ∙ at_drop_more (astray_of places l.from) c.args.some.now l.numbered-index d c.records-test.true
          ∙ astray_here places l.from (slice_index_or c.args.some.now l.numbered-index d) (drop (l.numbered-index + 1) c.args.some.now) (sym c.if-not-stands_at.ensures.stands)
          );
    }

pub records-preserved : goal.records-preserved
records-preserved c =
    let places : List ℕ = c.args.places.now.items.items in
    let l = c.records in
    record {
      rest =
          l.invariant.rest
          ∙ at_drop_more (astray_of places l.from) c.args.some.now l.numbered-index d c.records-test.true
          ∙ astray_next places l.from (slice_index_or c.args.some.now l.numbered-index d) (drop (l.numbered-index + 1) c.args.some.now) (sym c.if-not-stands_at.ensures.stands);
    }

pub returns : goal.returns
returns c =
    let places : List ℕ = c.args.places.now.items.items in
    let l = c.records in
    record { astray = sym (l.invariant.rest ∙ at_drop_all (astray_of places l.from) c.args.some.now l.numbered-index c.records-test.false ∙ astray_none places l.from) }
