use Rattle.std.proofs.Common.{ap, ◌∙◌, sym, rules, tests}
use Rattle.std.specs.Prelude.{position}
use Rattle.std.proofs.lemmas.Iterator.{YieldsList-from_slice}
use Rattle.std.proofs.lemmas.Iterator.Search.{position_from_yields_List}
use Rattle.site_files.specs.Places.{common_place, is_folder_of, place_in}
use Rattle.site_files.proofs.place.collection_place.Goals as goal

pub returns-in-Some : goal.returns-in-Some
returns-in-Some c =
    let test = is_folder_of c.args.brought c.args.path.now in
    let found = position_from_yields_List test _ _ c.position-found.result c.position-found.ensures.ran (YieldsList-from_slice _ c.iter.ensures.rest) (λ x b q k. search (rules, tests)) in
    ap (λ o. place_in o (common_place c.args.brought c.args.path.now)) (sym c.in-Some.is ∙ found ∙ ap (position test) c.as_slice.ensures)

pub returns-in-None : goal.returns-in-None
returns-in-None c =
    let test = is_folder_of c.args.brought c.args.path.now in
    let found = position_from_yields_List test _ _ c.position-found.result c.position-found.ensures.ran (YieldsList-from_slice _ c.iter.ensures.rest) (λ x b q k. search (rules, tests)) in
    c.common_place.ensures ∙ ap (λ o. place_in o (common_place c.args.brought c.args.path.now)) (sym c.in-None.is ∙ found ∙ ap (position test) c.as_slice.ensures)
