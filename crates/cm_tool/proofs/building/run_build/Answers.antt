use Rattle.std.proofs.Common.{◌≡◌}
use Rattle.cm_io.specs.States.{outside}
use Rattle.cm_tool_building.specs.Builds.{Builds}
use Rattle.cm_tool.specs.Building.{building_of}
use Rattle.cm_tool.proofs.Saved.{saved_all}
use Rattle.cm_tool.proofs.building.run_build.Goals as goal

pub returns : goal.returns
returns g c =
    let job = c.args.job in
    let keys : c.as_str.result.now ≡ job.keys = c.as_str.ensures.bytes in
    let function : c.as_str-2.result.now ≡ job.function = c.as_str-2.ensures.bytes in
    let dir : c.as_str-3.result.now ≡ job.dir = c.as_str-3.ensures.bytes in
    let old = outside (g.D.Disk.state c.args.disk.now) (g.O.Sink.state c.args.out.now) (g.E.Sink.state c.args.err.now) in
    let new = outside (g.D.Disk.state c.build.new.disk) (g.O.Sink.state c.build.new.out) (g.E.Sink.state c.build.new.err) in
    let builds : Builds (building_of job) old new c.build.result = rw (keys, function, dir) at c.build.ensures.builds in
    record { runs = record { builds = builds; numbers = λ zero files is. saved_all job old new c.build.result builds zero files is (c.saved_numbers.ensures job files) c.requires.job } }
