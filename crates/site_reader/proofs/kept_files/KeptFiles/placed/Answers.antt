use Rattle.std.proofs.Common.{◌<◌, ◌≤◌, length, map, arith}
use Rattle.std.specs.FinMap as finite
use Rattle.site_base.specs.PathMap.{as_map}
use Rattle.site_reader.specs.Placements.{KeptEntry, as_kept}
use Rattle.site_reader.proofs.EachLaws.{mapped_more}
use Rattle.site_reader.proofs.KeptLaws.{one_taken, taken_whole}
use Rattle.site_reader.proofs.kept_files.KeptFiles.placed.Goals as goal

pub loop-number-preserved : goal.loop-number-preserved
loop-number-preserved c =
    let files = finite.entries (as_map c.args.self.now.files) in
    let number = c.loop-number.number in
    let made = c.loop-number.files.items in
    let file : KeptEntry = (c.at.result.0.now, c.at.result.1.now) in
    let inside : number < length files = omega (arith, finite.len-entries (as_map c.args.self.now.files), c.len-number-end.ensures, c.loop-number-test.true) in
    let pushed = mapped_more as_kept made c.push.new.self.items c.placed_at.result file c.in_ok-push.ensures.items c.placed_at.ensures in
    one_taken files (map as_kept made) (map as_kept c.push.new.self.items) number file inside c.at.ensures pushed c.loop-number.invariant

pub returns : goal.returns
returns c =
    let files = finite.entries (as_map c.args.self.now.files) in
    let past : length files ≤ c.loop-number.number = omega (arith, finite.len-entries (as_map c.args.self.now.files), c.len-number-end.ensures, c.loop-number-test.false) in
    taken_whole files (map as_kept c.loop-number.files.items) c.loop-number.number past c.loop-number.invariant
