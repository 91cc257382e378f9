use Rattle.std.proofs.Common.{ℕ, List, ◌∙◌, sym, ap, subst}
use Rattle.read_record.specs.declared.key.Key.{Key}
use Rattle.read_record.specs.declared.shared_key.TableKey.TheVariants.{Kept}
use Rattle.read_record.specs.KeyLayout.{HoldsItsKeys}
use Rattle.read_record.proofs.BuilderLaws.{holds-one}
use Rattle.read_record.proofs.read_shares.ReadShares.keep.Goals as goal

pub invariant_of-self-in_err-insert : goal.invariant_of-self-in_err-insert
invariant_of-self-in_err-insert c = subst HoldsItsKeys (sym c.in_err-insert.ensures.err) c.self.invariant

pub invariant_of-self-2 : goal.invariant_of-self-2
invariant_of-self-2 c =
    holds-one c.self.inside.reads.entries c.insert.new.self.entries (Kept c.in_ok-share.field-0) c.in_ok-share-2.field-0 c.self.invariant
    (ap (λ (r : Key × List ℕ). r.0) c.in_ok-share-2.ensures ∙ sym c.key.ensures ∙ sym c.in_ok-share.ensures)
    c.in_ok-insert.ensures.updates.0
