use Rattle.filter_base.proofs.EachLaws.{item_asked}
use Rattle.filter_base.proofs.element_properties.property.Goals as goal

pub returns-in_ok-key-in-Item-clause-gives : goal.returns-in_ok-key-in-Item-clause-gives
returns-in_ok-key-in-Item-clause-gives g c =
    item_asked (g.L.Look.view c.args.look.now) (g.L.Look.trace c.args.look.now) (g.L.Look.trace c.ask.new.look) c.args.name.now c.args.value.now _ _ _ c.in-Item.is c.in_ok-key-in-Item.ensures c.ask.ensures.gives
