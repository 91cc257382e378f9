use Rattle.std.proofs.Common.{List, refl, sym, subst, ◌∙◌}
use Rattle.read_record.specs.Numbered.{KeptNumbers}
use Rattle.memo_table.specs.Stored.{read_count, HoldsKept, IsSound}
use Rattle.memo_table.proofs.KeptLaws.{count-kept, holds-kept}
use Rattle.memo_table.proofs.StoredLaws.{has_replaced, sound-settled}
use Rattle.memo_table.proofs.memo.Memo.pool.Goals as goal

pub release_all-requires : goal.release_all-requires
release_all-requires g c = has_replaced c.self.inside.store c.self.inside.entries.entries c.self.inside.replaced.items c.self.invariant.just

pub invariant_of-self : goal.invariant_of-self
invariant_of-self g c =
    let item = g.M.ItemMeaning.item in
    let es = c.self.inside.entries.entries in
    subst (IsSound item c.release_all.new.store es) (sym {A = List KeptNumbers} c.release_all.ensures.none) (sound-settled item c.self.inside.store c.release_all.new.store es c.self.inside.replaced.items c.self.invariant c.release_all.ensures.given).0

pub returns : goal.returns
returns g c =
    let store = c.release_all.new.store in
    let es = c.self.inside.entries.entries in
    let settled = sound-settled g.M.ItemMeaning.item c.self.inside.store store es c.self.inside.replaced.items c.self.invariant c.release_all.ensures.given in
    let same = settled.1 ∙ c.self.view_is in (
      (refl, λ _. tt, same),
      record {
        same = tt;
        just = subst (HoldsKept store) same (holds-kept store es c.len-entries.ensures.unique settled.0.named settled.0.just);
        count = count-kept store es c.len-entries.ensures.unique settled.0.just ∙ (λ i. read_count (same i));
      },
    )
