use Rattle.std.proofs.Common.{◌≡◌}
use Rattle.cm_io.specs.States.{outside}
use Rattle.cm_tool_building.specs.Builds.{Builds}
use Rattle.cm_filter_dump.specs.Building.{building_of}
use Rattle.cm_filter_dump.proofs.Saved.{saved_all}
use Rattle.cm_filter_dump.proofs.building.run_build.Goals as goal

pub returns : goal.returns
returns g c =
    let job = c.args.job in
    let keys : c.as_str.result.now ≡ job.keys = c.as_str.ensures.bytes in
    let filter : c.as_str-2.result.now ≡ job.filter = c.as_str-2.ensures.bytes in
    let old = outside (g.D.Disk.state c.args.disk.now) (g.O.Sink.state c.args.out.now) (g.E.Sink.state c.args.err.now) in
    let new = outside (g.D.Disk.state c.build.new.disk) (g.O.Sink.state c.build.new.out) (g.E.Sink.state c.build.new.err) in
    let builds : Builds (building_of job) old new c.build.result = rw (keys, filter) at c.build.ensures.builds in
    record { runs = record { builds = builds; holds = λ zero files is. saved_all job old new c.build.result builds zero files is (c.all_hold.ensures job files) c.requires.job } }
