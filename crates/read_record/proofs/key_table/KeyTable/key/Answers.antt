use Rattle.std.proofs.Common.{◌<◌, sym, ap, subst, ◌∙◌}
use Rattle.read_record.specs.Stores.{key_of, uses_of}
use Rattle.read_record.proofs.KeyTableLaws.{slot-held, key-at-number}
use Rattle.read_record.proofs.key_table.KeyTable.key.Goals as goal

pub index-requires : goal.index-requires
index-requires c = slot-held c.self.inside.slots c.args.number (subst (λ k. 0 < uses_of k c.args.number) (sym c.self.view_is) c.requires)

pub returns : goal.returns
returns c = c.as_key.ensures ∙ sym (key-at-number c.self.inside.slots c.args.number c.index.result.now c.index.ensures) ∙ ap (λ k. key_of k c.args.number) c.self.view_is
