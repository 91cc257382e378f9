use Rattle.std.proofs.Common.{◌≡◌, ◌∙◌, ap, List, sym}
use Rattle.std.specs.FinMap.{from_entries}
use Rattle.std.proofs.lemmas.List.{take-map}
use Rattle.site_base.specs.PathMap.{as_map}
use Rattle.site_base.specs.Places.{AllDiffer, paths_of}
use Rattle.site_base.specs.declared.shared.SharedBytes.{SharedBytes}
use Rattle.site_base.specs.declared.path_map.PathMap.{PathMap}
use Rattle.source_tree.specs.Put.{plain}
use Rattle.source_tree.proofs.Fitted.{File, as_plain, differ-kept, is_made, made_of}
use Rattle.source_tree.proofs.fitting.map_of_front.Goals as goal

abbrev Made : List File → PathMap SharedBytes → Type 0
Made es made = AllDiffer (paths_of es) × (as_map made ≡ from_entries es)

pub unwrap-requires : goal.unwrap-requires
unwrap-requires c =
    let es = c.in_ok-entries.entries.items in
    is_made (AllDiffer (paths_of es)) (Made es) c.from_entries.result
    (differ-kept c.args.files.items c.truncate.new.self.items es c.args.number c.requires c.truncate.ensures.items c.in_ok-entries.ensures)
    c.from_entries.ensures

pub returns : goal.returns
returns c =
    let es = c.in_ok-entries.entries.items in
    let made = made_of (AllDiffer (paths_of es) → ⊥) (Made es) c.from_entries.result c.unwrap.result c.unwrap.ensures c.from_entries.ensures in
    made.1 ∙ ap from_entries (c.in_ok-entries.ensures ∙ ap plain c.truncate.ensures.items ∙ sym (take-map as_plain c.args.number c.args.files.items))
