use Rattle.std.proofs.Common.{◌∙◌, ◌++◌, ◌∷◌, [], None, ap, ap₂, sym}
use Rattle.site_reader.specs.Neighbours.{site_item_of, site_items}
use Rattle.site_reader.proofs.NeighbourLaws.{all_gone, none_more, one_more}
use Rattle.site_reader.proofs.neighbours.site_items.Goals as goal

pub loop-rank-preserved : goal.loop-rank-preserved
loop-rank-preserved c =
    let documents = c.document_groups-documents.result in
    let done = c.loop-rank.done.items in
    let before = c.loop-rank.before in
    one_more documents done before c.loop-rank.ranked.entries c.push_item.new.done.items c.in-Some.rank c.in-Some.item c.pop_first.new.self.entries c.in-Some.ensures.removal
    (c.in_ok-push_item.ensures ∙ ap₂ (λ b n. done ++ site_item_of documents c.in-Some.rank b n c.in-Some.item ∷ []) c.as_ref.ensures.value c.first_rank.ensures)
    ∙ c.loop-rank.invariant

pub returns : goal.returns
returns c =
    let gone = all_gone c.loop-rank.ranked.entries c.in_default.ensures.variant.1 in
    c.from_vec.ensures ∙ sym (none_more c.document_groups-documents.result c.loop-rank.done.items c.loop-rank.before c.loop-rank.ranked.entries gone)
    ∙ c.loop-rank.invariant ∙ ap (λ n. site_items n None c.args.ranked.entries) c.document_groups-documents.ensures.count
