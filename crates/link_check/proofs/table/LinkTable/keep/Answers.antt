use Rattle.std.proofs.Common.{◌≡◌, ◌∙◌, List, ap, refl, subst, true, ℕ}
use Rattle.std.specs.FinMap.Entries.{put}
use Rattle.std.proofs.lemmas.Result.{on_ok_weaker}
use Rattle.site_base.specs.Places.{path_cmp}
use Rattle.link_check.specs.Links.{links}
use Rattle.link_check.specs.Numbers.{AreNumbered, AreNumbers}
use Rattle.link_check.specs.Table.{with_offer}
use Rattle.link_check.specs.declared.page.Page.{Page}
use Rattle.link_check.proofs.NumberLaws.{kept_pages}
use Rattle.link_check.proofs.TableLaws.{offered_table, put_sound}
use Rattle.link_check.proofs.table.LinkTable.keep.Goals as goal

pub invariant_of-self : goal.invariant_of-self
invariant_of-self c =
    record {
      rises = c.self.invariant.rises;
      numbered = kept_pages c.self.inside.values c.numbers_of.new.self c.numbers_of.ensures.kept c.self.inside.pages.items c.self.invariant.numbered;
    }

pub invariant_of-self-2 : goal.invariant_of-self-2
invariant_of-self-2 c =
    let pages = c.self.inside.pages.items in
    let values = c.numbers_of.new.self in
    let numbers = c.in_ok-links-2.links.items in
    let page : Page = record { bytes = c.args.bytes; links = c.in_ok-links-2.links; is_offered = true } in
    let all : AreNumbered values pages = kept_pages c.self.inside.values values c.numbers_of.ensures.kept pages c.self.invariant.numbered in
    let texts : c.as_slice-2.result.now ≡ links c.args.bytes = c.as_slice-2.ensures ∙ c.in_ok-links.ensures ∙ ap links c.as_slice.ensures in
    let numbered : AreNumbers values numbers (links c.args.bytes) = subst (λ (ts : List (List ℕ)). AreNumbers values numbers ts) texts c.in_ok-links-2.ensures.numbers in
    put_sound values pages c.put.new.pages.items c.in_ok-path.path page c.put.result c.self.invariant.rises all numbered c.put.ensures.ok c.put.ensures.err

pub returns-clause-ok : goal.returns-clause-ok
returns-clause-ok c =
    let old = c.self.inside.pages.items in
    let new = c.put.new.pages.items in
    let path = c.in_ok-path.path in
    let page : Page = record { bytes = c.args.bytes; links = c.in_ok-links-2.links; is_offered = true } in
    let named : path ≡ c.args.path.now = c.in_ok-path.ensures in
    on_ok_weaker c.put.result
    (λ (is : new ≡ put path_cmp path page old). offered_table old new path page c.self.invariant.rises refl is ∙ (λ i. with_offer (c.self.view_is i) (named i) c.args.bytes))
    c.put.ensures.ok
