use Rattle.std.proofs.Common.{refl, sym, subst}
use Rattle.std.specs.FinMap as map
use Rattle.cm_filter.specs.Filters.{filter_under}
use Rattle.cm_filter.specs.Members.{AllHold}
use Rattle.cm_filter_dump.specs.declared.files.FilterFile.{FilterFile}
use Rattle.cm_filter_file.specs.FilterFiles.{filter_bytes}
use Rattle.cm_keys.specs.Lines.{keys_in}
use Rattle.cm_tool_building.specs.StoreLaws.{written_at}
use Rattle.cm_filter_dump.proofs.laws.all_hold.Goals as goal

pub returns : goal.returns
returns c = λ job files bytes file build there made valid.
    let keys = (keys_in job.first job.end bytes).keys in
    let all : AllHold (filter_under keys job.c job.w made.seed) keys = c.keys_hold.ensures keys job.c job.w made.seed made.many build.ratio (c.empty_rest.ensures.rest _ made.takes.1.empty) in
    record {
      bytes = bytes;
      there = there;
      after = map.insert files job.filter (filter_bytes file.filter);
      known = refl;
      saved = filter_bytes file.filter;
      saved_there = written_at files job.filter (filter_bytes file.filter);
      filter = file.filter;
      spells = c.files_spell.ensures.spelling file.filter valid;
      all = subst (λ (f : FilterFile). AllHold f.filter keys) (sym made.is) all;
    }
