use Rattle.std.proofs.Common.{◌≡◌, ◌∙◌, ap, sym, Ok}
use Rattle.std.specs.Cmp.Lexicographic.{bytes_decides}
use Rattle.cm_dump.specs.declared.versions.Version.TheVariants as version
use Rattle.cm_dump.specs.Forms.{version_1, version_2}
use Rattle.cm_dump.proofs.VersionLemmas.{magic_known, names}
use Rattle.cm_dump.proofs.front.version_in.Goals as goal

pub returns-then-eq-clause-version : goal.returns-then-eq-clause-version
returns-then-eq-clause-version c = λ dump part.
    let same : c.in_ok-magic.magic.now ≡ version_2.magic = (bytes_decides c.in_ok-magic.magic.now version_2.magic).0 (sym c.eq.ensures ∙ c.if-eq.true) in
    names version.Two dump (c.in_ok-magic.ensures.exact dump part ∙ ap Ok same)

pub returns-then-eq-clause-exact : goal.returns-then-eq-clause-exact
returns-then-eq-clause-exact c = λ dump part.
    let same : c.in_ok-magic.magic.now ≡ version_2.magic = (bytes_decides c.in_ok-magic.magic.now version_2.magic).0 (sym c.eq.ensures ∙ c.if-eq.true) in
    magic_known version.Two dump (c.in_ok-magic.ensures.exact dump part ∙ ap Ok same)

pub returns-then-eq-2-clause-version : goal.returns-then-eq-2-clause-version
returns-then-eq-2-clause-version c = λ dump part.
    let same : c.in_ok-magic.magic.now ≡ version_1.magic = (bytes_decides c.in_ok-magic.magic.now version_1.magic).0 (sym c.eq-else-eq.ensures ∙ c.if-eq-2.true) in
    names version.One dump (c.in_ok-magic.ensures.exact dump part ∙ ap Ok same)

pub returns-then-eq-2-clause-exact : goal.returns-then-eq-2-clause-exact
returns-then-eq-2-clause-exact c = λ dump part.
    let same : c.in_ok-magic.magic.now ≡ version_1.magic = (bytes_decides c.in_ok-magic.magic.now version_1.magic).0 (sym c.eq-else-eq.ensures ∙ c.if-eq-2.true) in
    magic_known version.One dump (c.in_ok-magic.ensures.exact dump part ∙ ap Ok same)
