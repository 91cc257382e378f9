use Rattle.std.proofs.Common.{◌∙◌, ap, cond, List, refl, subst, ℕ}
use Rattle.site_base.specs.Places.{IsAbsent, IsThere}
use Rattle.link_check.specs.Table.{Table, has_bytes, with_offer}
use Rattle.link_check.specs.declared.page.Page.{Page}
use Rattle.link_check.proofs.TableLaws.{absent_has, there_has, written_numbered, written_rises, written_table}
use Rattle.link_check.proofs.table.LinkTable.offer_known.Goals as goal

pub invariant_of-self : goal.invariant_of-self
invariant_of-self c =
    let pages = c.self.inside.pages.items in
    let path = c.args.path.now in
    let place = c.in-Ok.place in
    let item = c.index_mut.result.now in
    let page = c.offer_same.new.page in
    let there : IsThere path pages place = subst (λ (es : List (List ℕ × Page)). IsThere path es place) c.deref.ensures.value c.in-Ok.ensures in
    record {
      rises = written_rises pages _ path place item page c.self.invariant.rises there c.index_mut.ensures.value refl;
      numbered = written_numbered c.self.inside.values pages _ path place item page c.self.invariant.numbered there c.index_mut.ensures.value c.offer_same.ensures.bytes c.offer_same.ensures.links refl;
    }

pub returns-in-Ok-clause-told : goal.returns-in-Ok-clause-told
returns-in-Ok-clause-told c =
    let pages = c.self.inside.pages.items in
    let path = c.args.path.now in
    let place = c.in-Ok.place in
    let item = c.index_mut.result.now in
    let there : IsThere path pages place = subst (λ (es : List (List ℕ × Page)). IsThere path es place) c.deref.ensures.value c.in-Ok.ensures in
    let bytes = c.args.bytes.now in
    c.offer_same.ensures.told ∙ there_has pages path bytes place item c.self.invariant.rises there c.index_mut.ensures.value ∙ ap (λ (t : Table). has_bytes t path bytes) c.self.view_is

pub returns-in-Ok-clause-new : goal.returns-in-Ok-clause-new
returns-in-Ok-clause-new c =
    let pages = c.self.inside.pages.items in
    let path = c.args.path.now in
    let place = c.in-Ok.place in
    let item = c.index_mut.result.now in
    let page = c.offer_same.new.page in
    let there : IsThere path pages place = subst (λ (es : List (List ℕ × Page)). IsThere path es place) c.deref.ensures.value c.in-Ok.ensures in
    let bytes = c.args.bytes.now in
    let same = c.offer_same.result in
    written_table pages _ path bytes place item page same c.self.invariant.rises there c.index_mut.ensures.value c.offer_same.ensures.bytes c.offer_same.ensures.links c.offer_same.ensures.offered c.offer_same.ensures.told refl
    ∙ ap (λ (t : Table). cond same (with_offer t path bytes) t) c.self.view_is

pub returns-in-Err-clause-told : goal.returns-in-Err-clause-told
returns-in-Err-clause-told c =
    let pages = c.self.inside.pages.items in
    let path = c.args.path.now in
    let place = c.in-Err.field-0 in
    let absent : IsAbsent path pages place = subst (λ (es : List (List ℕ × Page)). IsAbsent path es place) c.deref.ensures.value c.in-Err.ensures in
    absent_has pages path c.args.bytes.now place c.self.invariant.rises absent ∙ ap (λ (t : Table). has_bytes t path c.args.bytes.now) c.self.view_is
