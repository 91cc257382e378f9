use Rattle.std.proofs.Common.{sym, ap, subst, ◌∙◌}
use Rattle.text_pool.specs.Texts.{IsHeld, bytes_of}
use Rattle.text_pool.proofs.TableLaws.{key_there, has_entry, bytes-at, none_some}
use Rattle.text_pool.proofs.text_table.TextTable.bytes.Goals as goal

pub index-requires : goal.index-requires
index-requires c = key_there c.self.inside.numbers.entries c.self.inside.slots c.self.invariant c.args.number (subst (λ t. IsHeld t c.args.number) (sym c.self.view_is) c.requires)

pub unreachable-requires : goal.unreachable-requires
unreachable-requires c =
    let e = has_entry c.self.inside.numbers.entries c.self.inside.slots c.self.invariant c.args.number c.index.result.now c.index.ensures in
    none_some e.0 (c.in-None.ensures.entry ∙ e.1)

pub returns : goal.returns
returns c =
    c.bytes.ensures
    ∙ sym (bytes-at c.self.inside.numbers.entries c.self.inside.slots c.self.invariant c.args.number c.index.result.now (c.in-Some.key.now, c.in-Some.field-0-1.now) c.index.ensures (sym c.in-Some.ensures.entry))
    ∙ ap (λ t. bytes_of t c.args.number) c.self.view_is
