use Rattle.std.proofs.Common.{sym, subst}
use Rattle.read_record.specs.declared.shared_key.TableKey.TheVariants.{Asked}
use Rattle.read_record.specs.Stores.{IsAt}
use Rattle.read_record.proofs.KeyTableLaws.{found-at}
use Rattle.read_record.proofs.key_table.KeyTable.number_of.Goals as goal

pub returns-in-Some : goal.returns-in-Some
returns-in-Some c =
    subst (λ k. IsAt k c.in-Some.number.now c.args.key.now) c.self.view_is
    (found-at c.self.inside.numbers.entries c.self.inside.slots (Asked c.args.key) c.in-Some.number.now c.self.invariant (sym c.in-Some.ensures.value))
