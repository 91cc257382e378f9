use Rattle.std.proofs.Common.{is_some, ap, ◌∙◌}
use Rattle.std.specs.Map.{lookup}
use Rattle.read_record.specs.declared.shared_key.TableKey.TheVariants.{Asked}
use Rattle.read_record.specs.Keys.{same_key}
use Rattle.read_record.specs.Queries.{Reads}
use Rattle.read_record.proofs.record_builder.RecordBuilder.has.Goals as goal

pub returns : goal.returns
returns c = c.contains_key.ensures ∙ c.self.invariant.1 (Asked c.args.key) ∙ ap (λ (rs : Reads). is_some (lookup (same_key c.args.key.now) rs)) c.self.view_is
