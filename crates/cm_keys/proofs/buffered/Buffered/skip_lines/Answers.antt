use Rattle.std.proofs.Common.{◌+◌, ◌∙◌, ap, arith, length, drop, subst, sym}
use Rattle.memchr.specs.Find.{is_byte}
use Rattle.memchr.proofs.lemmas.CallerLemmas.{length-places}
use Rattle.cm_io.specs.declared.key_pass.TheConstants.{MAX_KEY_LEN}
use Rattle.cm_keys.specs.Buffering.{TakesLines, HasNoEnd, ready_in, line_rule}
use Rattle.cm_keys.proofs.PieceLemmas.{no_end, ready_after}
use Rattle.cm_keys.proofs.WholeLemmas.{lines_taken, nowhere_after, some_counted}
use Rattle.cm_keys.proofs.buffered.Buffered.skip_lines.Goals as goal

pub returns-clause-lines : goal.returns-clause-lines
returns-clause-lines g c =
    let m = c.in-Some.ensures in
    let self = c.args.self.now in
    let hay = ready_in self.buf self.start self.until in
    let left = ready_in self.buf (self.start + (c.in-Some.last + 1)) self.until in
    let many = c.count-count.ensures ∙ ap length c.memchr_iter.ensures.value ∙ length-places (is_byte c.args.end) hay in
    subst (TakesLines (line_rule MAX_KEY_LEN c.args.end) hay left) (sym many)
    (lines_taken c.args.end MAX_KEY_LEN self.buf self.start self.until c.in-Some.last m.0.high m.1 m.0.after self.in_buf)

pub returns-clause-all : goal.returns-clause-all
returns-clause-all g c =
    let m = c.in-Some.ensures in
    let self = c.args.self.now in
    let hay = ready_in self.buf self.start self.until in
    let later = ready_after self.buf self.start self.until c.in-Some.last m.0.high in
    subst (HasNoEnd c.args.end) (sym later) (no_end c.args.end (drop (c.in-Some.last + 1) hay) (nowhere_after c.args.end hay (c.in-Some.last + 1) m.0.after))

pub returns-in-None-clause-all : goal.returns-in-None-clause-all
returns-in-None-clause-all g c = no_end _ (ready_in c.args.self.now.buf c.args.self.now.start c.args.self.now.until) c.in-None.ensures

pub returns-clause-unchanged : goal.returns-clause-unchanged
returns-clause-unchanged g c = λ none.
    let m = c.in-Some.ensures in
    let hay = ready_in c.args.self.now.buf c.args.self.now.start c.args.self.now.until in
    let many = c.count-count.ensures ∙ ap length c.memchr_iter.ensures.value ∙ length-places (is_byte c.args.end) hay in
    absurd (omega (arith, none, many, some_counted c.args.end hay c.in-Some.last m.0.high m.1))
