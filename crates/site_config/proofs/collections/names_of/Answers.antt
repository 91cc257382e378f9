use Rattle.std.proofs.Common.{List, ap, sym, subst, ◌∙◌, take, get_or}
use Rattle.std.proofs.lemmas.List.{take_more}
use Rattle.std.specs.String.{string_bytes}
use Rattle.site_config.specs.declared.collection.Collection.{Collection}
use Rattle.site_config.specs.Seen.{HasNames}
use Rattle.site_config.proofs.SeenLaws.{names_more}
use Rattle.site_config.proofs.collections.names_of.Goals as goal

pub loop-collection-preserved : goal.loop-collection-preserved
loop-collection-preserved c =
    let cs = c.as_slice-collection-items.result.now in
    let i = c.loop-collection.collection-index in
    let item = c.collection-item.result in
    let new = c.insert.new.self in
    subst (λ (xs : List Collection). HasNames new xs) (sym (take_more cs i item c.loop-collection-test.true))
    (names_more c.loop-collection.seen new (take i cs) (get_or cs i item) (string_bytes c.in_ok-from_str.field-0)
    (c.in_ok-from_str.ensures.ok ∙ c.as_str.ensures ∙ ap (λ (x : Collection). x.name) c.collection-item.is)
    c.in_ok-insert.ensures.updates c.loop-collection.invariant)
