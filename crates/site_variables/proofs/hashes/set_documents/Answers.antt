use Rattle.std.proofs.Common.{ℕ, ◌<◌, ◌∙◌, ap, arith, length, List}
use Rattle.site_base.specs.Plain.{list, set}
use Rattle.site_config.specs.declared.collection.Collection.{Collection}
use Rattle.site_variables.proofs.CollectionLaws.{documents_more}
use Rattle.site_variables.proofs.PlaceLaws.{placed_at}
use Rattle.site_variables.proofs.hashes.set_documents.Goals as goal

pub loop-place-preserved : goal.loop-place-preserved
loop-place-preserved c =
    let items = c.args.site.now.items in let cs = c.as_slice-collections.result.now in let i = c.loop-place.place in
    let count = length c.args.site.now.config.collections in
    let within : i < count = omega (arith, ap (length {A = Collection}) c.as_slice-collections.ensures, c.loop-place-test.true) in
    documents_more items cs i c.index-collections-place.result c.loop-place.made c.set.new.self c.in_ok-list.list c.loop-place-test.true c.index-collections-place.is
    (c.in_ok-list.ensures ∙ placed_at items count c.args.documents.now i c.index-documents-place.result c.requires within c.index-documents-place.is)
    (c.in_ok-set.ensures.ok ∙ ap (λ (k : List ℕ). set k (list c.in_ok-list.list) c.loop-place.made) c.in_ok-share.ensures)
    ∙ c.loop-place.invariant
