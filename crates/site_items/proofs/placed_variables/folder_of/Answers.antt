use Rattle.std.proofs.Common.{◌-◌, length}
use Rattle.std.specs.Prelude.{not}
use Rattle.std.specs.List.{suffix_len}
use Rattle.site_files.specs.Names.{is_slash}
use Rattle.site_items.proofs.Cutting.{cut_before_end}
use Rattle.site_items.proofs.placed_variables.folder_of.Goals as goal

pub range-requires-clause-end_boundary : goal.range-requires-clause-end_boundary
range-requires-clause-end_boundary c = cut_before_end c.args.url.now c.file_name.result.now (length c.args.url.now - suffix_len (λ x. not (is_slash x)) c.args.url.now) c.file_name.ensures c.file_name.utf8
