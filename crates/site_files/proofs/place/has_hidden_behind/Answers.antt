use Rattle.std.proofs.Common.{◌≤◌, ◌+◌, length, rules}
use Rattle.site_files.proofs.Starts.{longer_than_folder}
use Rattle.site_files.proofs.place.has_hidden_behind.Goals as goal

pub slice_bounds-has_hidden_segment-count : goal.slice_bounds-has_hidden_segment-count
slice_bounds-has_hidden_segment-count c = longer_than_folder c.args.path.now c.args.root.now c.requires

pub slice_bounds-has_hidden_segment-start : goal.slice_bounds-has_hidden_segment-start
slice_bounds-has_hidden_segment-start c = let h : length c.args.root.now + 1 ≤ length c.args.path.now = longer_than_folder c.args.path.now c.args.root.now c.requires in search (rules, h)
