use Rattle.std.proofs.Common.{sym, ◌∙◌}
use Rattle.site_base.proofs.Clashing.{before_sliced, outside_compared}
use Rattle.site_base.proofs.path_map.is_before_inside.Goals as goal

pub returns-then-starts_with : goal.returns-then-starts_with
returns-then-starts_with c =
    before_sliced c.args.path.now c.args.folder.now _ _ c.as_bytes-path.ensures.bytes (sym c.starts_with.ensures.value ∙ c.if-starts_with.true) c.begins_before_slash.ensures

pub returns-else-starts_with : goal.returns-else-starts_with
returns-else-starts_with c =
    outside_compared c.args.path.now c.args.folder.now _ _ _ c.as_bytes-path.ensures.bytes (sym c.starts_with.ensures.value ∙ c.if-starts_with.false) c.is_gt.ensures c.cmp.ensures
