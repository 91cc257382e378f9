use Rattle.std.proofs.Common.{sym, ◌∙◌}
use Rattle.site_base.proofs.Clashing.{below_sliced, not_below_sliced}
use Rattle.site_base.proofs.path_map.is_below.Goals as goal

pub returns-then-starts_with : goal.returns-then-starts_with
returns-then-starts_with c =
    below_sliced c.args.path.now c.args.folder.now _ _ _ c.as_bytes-path.ensures.bytes c.as_bytes-folder.ensures.bytes (sym c.starts_with.ensures.value ∙ c.if-starts_with.true) c.begins_with_slash.ensures

pub returns-else-starts_with : goal.returns-else-starts_with
returns-else-starts_with c =
    not_below_sliced c.args.path.now c.args.folder.now _ _ _ c.as_bytes-path.ensures.bytes c.as_bytes-folder.ensures.bytes (sym c.starts_with.ensures.value ∙ c.if-starts_with.false) c.if-starts_with.false
