use Rattle.std.proofs.Common.{◌≡◌, None, ap, ◌∙◌}
use Rattle.std.specs.Map.{lookup}
use Rattle.read_record.specs.declared.shared_key.TableKey.TheVariants.{Kept}
use Rattle.read_record.specs.Keys.{same_key}
use Rattle.read_record.proofs.BuilderLaws.{built-one}
use Rattle.read_record.proofs.record_builder.RecordBuilder.add.Goals as goal

pub invariant_of-self-2 : goal.invariant_of-self-2
invariant_of-self-2 c =
    let none : lookup (same_key c.args.read.0) c.self.inside.reads.items ≡ None = ap (lookup (same_key c.args.read.0)) c.self.view_is ∙ c.requires in
    built-one c.self.inside.index.entries c.insert.new.self.entries c.self.inside.reads.items c.reserve.new.self.items c.push_reserved.new.self.items
    (Kept c.in_ok-share.field-0) _ c.args.read c.self.invariant c.in_ok-reserve.ensures.items c.push_reserved.ensures.items none (c.in_ok-share.ensures ∙ c.key.ensures) c.in_ok-insert.ensures.updates.0
