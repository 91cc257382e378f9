use Rattle.std.proofs.Common.{[], ap, refl, List, ◌++◌, ◌∷◌, ◌≡◌, ◌∙◌}
use Rattle.std.proofs.Math.ListN.{set}
use Rattle.cm_inlines.specs.Machine.{change_between}
use Rattle.cm_inlines.specs.Places.{Lists, change_each}
use Rattle.cm_inlines.specs.Steps.{link_nodes}
use Rattle.cm_inlines.specs.declared.changes.Change.TheVariants.{Calm}
use Rattle.cm_inlines.specs.declared.node.Node.{Node}
use Rattle.cm_inlines.specs.declared.node.Node.TheVariants as node
use Rattle.cm_inlines.proofs.ListLaws.{calms, link_lists, on_ok}
use Rattle.cm_inlines.proofs.reading.make_link.Goals as goal

pub returns-clause-value : goal.returns-clause-value
returns-clause-value c =
    let i = c.in_ok-pair_inside.ensures in
    let place = c.args.found.place in
    let opener = node.OpenLink c.args.target in
    let old = c.args.nodes.now.items in
    let calm = c.calm.new.nodes.items in
    let links = c.pair_inside.new.delimiters.links.items in
    let k = calms c.args.found c.args.delimiters.now old c.pair_inside.new.nodes.items calm c.pair_inside.new.delimiters.runs.items links opener c.requires i.shut i.links (c.calm.ensures.value ∙ ap (change_each Calm links) c.put.ensures) in
    on_ok (c.push.new.nodes.items ≡ calm ++ node.CloseLink ∷ []) (c.push.new.nodes.items ≡ link_nodes place c.args.target old) c.push.result
    (λ e. e ∙ ap (λ (zs : List Node). zs ++ node.CloseLink ∷ []) (k.between ∙ ap (λ (zs : List Node). change_between Calm 0 place (set zs place opener)) i.value)) c.push.ensures

pub returns-clause-listed : goal.returns-clause-listed
returns-clause-listed c =
    let i = c.in_ok-pair_inside.ensures in
    let opener = node.OpenLink c.args.target in
    let old = c.args.nodes.now.items in
    let calm = c.calm.new.nodes.items in
    let inside = c.pair_inside.new.delimiters in
    let k = calms c.args.found c.args.delimiters.now old c.pair_inside.new.nodes.items calm inside.runs.items inside.links.items opener c.requires i.shut i.links (c.calm.ensures.value ∙ ap (change_each Calm inside.links.items) c.put.ensures) in
    on_ok (c.push.new.nodes.items ≡ calm ++ node.CloseLink ∷ []) (Lists c.calm.new.self c.push.new.nodes.items) c.push.result
    (λ e.
    link_lists c.args.found c.args.delimiters.now c.calm.new.self old c.pair_inside.new.nodes.items calm c.push.new.nodes.items inside.runs.items opener node.CloseLink refl refl c.requires i.shut c.calm.ensures.runs (c.calm.ensures.brackets ∙ i.brackets) c.calm.ensures.links k e)
    c.push.ensures
