use Rattle.std.proofs.Common.{◌∙◌, ap, refl}
use Rattle.std.specs.List.{suffix_len}
use Rattle.link_check.specs.Targets.{is_of_name}
use Rattle.link_check.proofs.PathLaws.{folder_cut}
use Rattle.link_check.proofs.leading.folder_of.Goals as goal

pub range-requires-clause-end_boundary : goal.range-requires-clause-end_boundary
range-requires-clause-end_boundary c = folder_cut c.args.path.now c.name_len.result _ c.utf8.path (c.name_len.ensures.value ∙ ap (suffix_len is_of_name) c.as_bytes.ensures.value) refl
