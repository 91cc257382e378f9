use Rattle.std.proofs.Common.{ap, ◌∙◌}
use Rattle.memo_table.specs.Entries.{of_names}
use Rattle.memo_table.proofs.StoredLaws.{behind-there, left-map, sound-left}
use Rattle.memo_table.proofs.memo.Memo.forget_missing.Goals as goal

pub release_behind-requires : goal.release_behind-requires
release_behind-requires g c =
    behind-there g.M.ItemMeaning.item c.self.inside.store c.self.inside.entries.entries c.gather-gathered.new.values.entries c.self.inside.replaced.items c.gather-gathered.result c.self.invariant c.gather-gathered.ensures.moved

pub invariant_of-self : goal.invariant_of-self
invariant_of-self g c =
    sound-left g.M.ItemMeaning.item (g.W.World.names c.args.world.now) c.self.inside.store c.release_behind.new.store c.self.inside.entries.entries c.gather-gathered.new.values.entries c.release_behind.new.entries.entries
    c.gather-gathered.result c.self.inside.replaced.items c.self.invariant c.gather-gathered.ensures.moved c.gather-gathered.ensures.front c.release_behind.ensures.front c.release_behind.ensures.given

pub returns : goal.returns
returns g c =
    c.pool.follows.holds-at-none
    ∙ left-map g.M.ItemMeaning.item (g.W.World.names c.args.world.now) c.self.inside.store c.release_behind.new.store c.self.inside.entries.entries c.gather-gathered.new.values.entries c.release_behind.new.entries.entries
    c.gather-gathered.result c.self.inside.replaced.items c.self.invariant c.gather-gathered.ensures.moved c.gather-gathered.ensures.front c.release_behind.ensures.front c.release_behind.ensures.given
    ∙ ap (of_names (g.W.World.names c.args.world.now)) c.self.view_is
