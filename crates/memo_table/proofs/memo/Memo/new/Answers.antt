use Rattle.std.proofs.Common.{◌≡◌, [], subst, sym, ap}
use Rattle.std.specs.FinMap.{empty}
use Rattle.memo_table.specs.Entries.{AreCertified, AreNamed}
use Rattle.memo_table.specs.NameKeys.{as_map}
use Rattle.memo_table.specs.Stored.{Listed, resolved_all, no_reads, HoldsJust}
use Rattle.memo_table.proofs.EntryLaws.{certified-empty, named-empty}
use Rattle.memo_table.proofs.StoredLaws.{just-nothing}
use Rattle.memo_table.proofs.memo.Memo.new.Goals as goal

pub invariant_of-result : goal.invariant_of-result
invariant_of-result g c =
    let store = c.new-2.result in
    let none : as_map (resolved_all store c.new.result.entries) ≡ empty = ap (λ (es : Listed). as_map (resolved_all store es)) c.new.ensures.empty in
    record {
      named = subst AreNamed (sym none) named-empty;
      certified = subst (AreCertified g.M.ItemMeaning.item) (sym none) (certified-empty g.M.ItemMeaning.item);
      just = subst (λ s. HoldsJust s c.new.result.entries c.new-3.result.items) (sym c.new-2.ensures)
          (subst (λ (es : Listed). HoldsJust no_reads es c.new-3.result.items) (sym c.new.ensures.empty) (subst (λ r. HoldsJust no_reads [] r) (sym c.new-3.ensures.items) just-nothing));
    }

pub returns : goal.returns
returns g c = ap (λ (es : Listed). as_map (resolved_all c.new-2.result es)) c.new.ensures.empty
