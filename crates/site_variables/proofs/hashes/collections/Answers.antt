use Rattle.std.proofs.Common.{◌+◌, ◌<◌, ◌∙◌, ap, arith, drop, length, List, refl}
use Rattle.site_base.specs.Plain.{Items, onto}
use Rattle.site_config.specs.declared.collection.Collection.{Collection}
use Rattle.site_variables.specs.Hashes.{collections_from}
use Rattle.site_variables.proofs.CollectionLaws.{collections_more}
use Rattle.site_variables.proofs.Filled.{made_end}
use Rattle.site_variables.proofs.PlaceLaws.{placed_at}
use Rattle.site_variables.proofs.hashes.collections.Goals as goal

pub loop-place-preserved : goal.loop-place-preserved
loop-place-preserved c =
    let items = c.args.site.now.items in let cs = c.as_slice-collections.result.now in let i = c.loop-place.place in
    let count = length c.args.site.now.config.collections in
    let within : i < count = omega (arith, ap (length {A = Collection}) c.as_slice-collections.ensures, c.loop-place-test.true) in
    ap (λ (is : Items). onto is (collections_from items (i + 1) (drop (i + 1) cs))) c.in_ok-push.ensures.ok
    ∙ collections_more items cs i c.index-collections-place.result c.loop-place.list c.index-documents-place.result _ c.loop-place-test.true c.index-collections-place.is
    (placed_at items count c.args.documents.now i c.index-documents-place.result c.requires within c.index-documents-place.is) c.in_ok-collection_with.ensures
    ∙ c.loop-place.invariant

pub returns : goal.returns
returns c =
    let items = c.args.site.now.items in let cs = c.as_slice-collections.result.now in
    made_end (collections_from items c.loop-place.place) c.loop-place.list cs c.loop-place.place refl c.loop-place-test.false
    ∙ c.loop-place.invariant ∙ ap (λ (ds : List Collection). collections_from items 0 ds) c.as_slice-collections.ensures
