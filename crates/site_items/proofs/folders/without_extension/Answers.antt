use Rattle.std.proofs.Common.{◌≡◌, ℕ, ◌+◌, ◌-◌, length, drop, ap, ◌∙◌}
use Rattle.std.specs.Prelude.{not}
use Rattle.std.specs.List.{suffix_len}
use Rattle.std.proofs.lemmas.List.{drop-drop}
use Rattle.site_files.specs.Names.{is_slash, stem}
use Rattle.site_items.proofs.Cutting.{cut_before_end}
use Rattle.site_items.proofs.folders.without_extension.Goals as goal

pub range-requires-clause-end_boundary : goal.range-requires-clause-end_boundary
range-requires-clause-end_boundary c =
    let path = c.args.path.now in
    let k : ℕ = length path - suffix_len (λ x. not (is_slash x)) path in
    let name : c.file_name.result.now ≡ drop k path = c.file_name.ensures in
    let m : ℕ = length (stem c.file_name.result.now) in
    let ext : c.extension.result.now ≡ drop m c.file_name.result.now = c.extension.ensures in
    cut_before_end path c.extension.result.now (k + m) (ext ∙ ap (drop m) name ∙ drop-drop m k path) c.extension.utf8
