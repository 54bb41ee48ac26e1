use Rattle.std.proofs.Common.{◌≡◌, ◌∙◌, ◌≤◌, ℕ, List, take, arith, length, length-take}
use Rattle.std.specs.Option.{ForSome}
use Rattle.cm_dump_items.specs.PartLaws.{part_filled}
use Rattle.cm_dump_items.specs.Reading.{IsAt, IsPart}
use Rattle.cm_dump_items.specs.StepLaws.{for_ok, on_ok}
use Rattle.cm_dump.specs.declared.header.TheConstants.{HEADER_LEN}
use Rattle.cm_dump.specs.Forms.{version_of}
use Rattle.cm_dump.proofs.reader.read_heading.Goals as goal

pub returns-clause-at : goal.returns-clause-at
returns-clause-at g c = on_ok c.heading_of.result whole c.heading_of.ensures.inside where
  whole : HEADER_LEN ≤ length (take c.in-Ok.got c.fill.new.buf) → IsAt (g.S.Source.told c.fill.new.source) (g.S.Source.place c.fill.new.source) HEADER_LEN
  whole inside = λ x is.
      let at = c.in-Ok.ensures.at x is in
      let all : c.in-Ok.got ≡ HEADER_LEN = omega (arith, inside, length-take c.in-Ok.got c.fill.new.buf, c.in-Ok.ensures.inside) in
      (omega (arith, at.0, all), omega (arith, at.1, all))

pub returns-clause-version : goal.returns-clause-version
returns-clause-version g c =
    let buf : List ℕ = c.fill.new.buf in
    let got : ℕ = c.in-Ok.got in
    let size : length buf ≡ HEADER_LEN = omega (arith, c.fill.auto.buf) in
    for_ok c.heading_of.result
    (λ h. (dump : List ℕ) → IsPart dump 0 HEADER_LEN (take got buf) → h.version ≡ version_of dump)
    (λ h. ForSome (g.S.Source.told c.args.source.now) (λ bytes. h.version ≡ version_of bytes))
    (λ h known x is. known x (part_filled x buf 0 HEADER_LEN got size (c.in-Ok.ensures.fills x is) c.in-Ok.ensures.inside (c.in-Ok.ensures.at x (c.in-Ok.ensures.told ∙ is)).1))
    c.heading_of.ensures.version

pub returns-clause-exact : goal.returns-clause-exact
returns-clause-exact g c = λ x is.
    let buf : List ℕ = c.fill.new.buf in
    let got : ℕ = c.in-Ok.got in
    let size : length buf ≡ HEADER_LEN = omega (arith, c.fill.auto.buf) in
    c.heading_of.ensures.exact x (part_filled x buf 0 HEADER_LEN got size (c.in-Ok.ensures.fills x is) c.in-Ok.ensures.inside (c.in-Ok.ensures.at x (c.in-Ok.ensures.told ∙ is)).1)
