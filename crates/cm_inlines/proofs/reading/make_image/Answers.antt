use Rattle.std.proofs.Common.{[], ap, refl, List, ◌++◌, ◌∷◌, ◌≡◌, ◌∙◌}
use Rattle.cm_inlines.specs.Places.{Lists}
use Rattle.cm_inlines.specs.declared.node.Node.{Node}
use Rattle.cm_inlines.specs.declared.node.Node.TheVariants as node
use Rattle.cm_inlines.proofs.ListLaws.{image_lists, on_ok}
use Rattle.cm_inlines.proofs.reading.make_image.Goals as goal

pub returns-clause-listed : goal.returns-clause-listed
returns-clause-listed c =
    let i = c.in_ok-pair_inside.ensures in
    let new = c.push.new.nodes.items in
    on_ok (new ≡ c.put.new.nodes.items ++ node.CloseImage ∷ []) (Lists c.pair_inside.new.delimiters new) c.push.result
    (λ e.
    image_lists c.args.found c.args.delimiters.now c.pair_inside.new.delimiters c.args.nodes.now.items c.pair_inside.new.nodes.items new (node.OpenImage c.args.target) node.CloseImage refl refl c.requires i.shut i.brackets i.links
    (e ∙ ap (λ (zs : List Node). zs ++ node.CloseImage ∷ []) c.put.ensures))
    c.push.ensures
