use Rattle.std.proofs.Common.{◌≡◌, drop}
use Rattle.std.specs.List.{fold}
use Rattle.site_base.specs.View.{items_of}
use Rattle.read_record.specs.Keys.{item_writes}
use Rattle.read_record.proofs.key.write_texts.Given as goal

abbrev pub invariant-loop-value : goal.invariant-loop-value
invariant-loop-value g l =
    fold g.H.Hasher.write l.state (item_writes (items_of (drop l.value-index l.values))) ≡ fold g.H.Hasher.write l.initial.state (item_writes (items_of l.values))
