use Rattle.std.proofs.Common.{◌≡◌, ◌∙◌, ◌<◌, IfOk, List, OnOk, [], ◌∷◌, ap, arith, length, subst, sym, ℕ}
use Rattle.std.specs.FinMap.{entries, len-entries}
use Rattle.std.specs.Option.{option_copied}
use Rattle.out_tree.specs.Belief.{believed, state_of}
use Rattle.out_tree.specs.declared.state.State.{State}
use Rattle.site_session.specs.Looking.{finds_new, offered}
use Rattle.site_session.specs.Pages.{Page, page_at, page_by}
use Rattle.site_session.proofs.Looking.{no_page_by, page_there, told_page}
use Rattle.site_session.proofs.links.look_at.Goals as goal

pub returns-in-Some-clause-told : goal.returns-in-Some-clause-told
returns-in-Some-clause-told c = λ d.
    let belief = believed c.args.keeper.now in
    let lt : c.args.place < length (entries belief) = omega (arith, c.requires, len-entries belief) in
    let path = c.shared_entry.result.0.now in
    let is = told_page (entries belief) c.args.place d path _ lt c.shared_entry.ensures ∙ ap (λ o. page_by path (state_of (option_copied o))) c.in-Some.is ∙ page_there path c.in-Some.bytes.now (sym c.is_page.ensures ∙ c.if-is_page.true) in
    subst (λ (pages : List Page). IfOk c.offer_shared.result (λ is_new. is_new ≡ finds_new c.args.table.now pages)) (sym is) c.offer_shared.ensures.told

pub returns-in-Some-clause-ok : goal.returns-in-Some-clause-ok
returns-in-Some-clause-ok c = λ d.
    let belief = believed c.args.keeper.now in
    let lt : c.args.place < length (entries belief) = omega (arith, c.requires, len-entries belief) in
    let path = c.shared_entry.result.0.now in
    let is = told_page (entries belief) c.args.place d path _ lt c.shared_entry.ensures ∙ ap (λ o. page_by path (state_of (option_copied o))) c.in-Some.is ∙ page_there path c.in-Some.bytes.now (sym c.is_page.ensures ∙ c.if-is_page.true) in
    subst (λ (pages : List Page). OnOk c.offer_shared.result (c.offer_shared.new.self ≡ offered c.args.table.now pages)) (sym is) c.offer_shared.ensures.ok

pub returns-in_default-clause-told : goal.returns-in_default-clause-told
returns-in_default-clause-told c = λ d.
    let belief = believed c.args.keeper.now in
    let lt : c.args.place < length (entries belief) = omega (arith, c.requires, len-entries belief) in
    sym (ap (finds_new c.args.table.now) (told_page (entries belief) c.args.place d c.shared_entry.result.0.now _ lt c.shared_entry.ensures ∙ no_page_by c.shared_entry.result.0.now _ (sym c.is_page.ensures ∙ c.if-is_page.false)))

pub returns-in_default-clause-ok : goal.returns-in_default-clause-ok
returns-in_default-clause-ok c = λ d.
    let belief = believed c.args.keeper.now in
    let lt : c.args.place < length (entries belief) = omega (arith, c.requires, len-entries belief) in
    sym (ap (offered c.args.table.now) (told_page (entries belief) c.args.place d c.shared_entry.result.0.now _ lt c.shared_entry.ensures ∙ no_page_by c.shared_entry.result.0.now _ (sym c.is_page.ensures ∙ c.if-is_page.false)))

pub returns-in_default-2-clause-told : goal.returns-in_default-2-clause-told
returns-in_default-2-clause-told c = λ d.
    let belief = believed c.args.keeper.now in
    let lt : c.args.place < length (entries belief) = omega (arith, c.requires, len-entries belief) in
    let path = c.shared_entry.result.0.now in
    sym (ap (finds_new c.args.table.now) (told_page (entries belief) c.args.place d path _ lt c.shared_entry.ensures ∙ ap (λ o. page_by path (state_of (option_copied o))) c.in_default.is))

pub returns-in_default-2-clause-ok : goal.returns-in_default-2-clause-ok
returns-in_default-2-clause-ok c = λ d.
    let belief = believed c.args.keeper.now in
    let lt : c.args.place < length (entries belief) = omega (arith, c.requires, len-entries belief) in
    let path = c.shared_entry.result.0.now in
    sym (ap (offered c.args.table.now) (told_page (entries belief) c.args.place d path _ lt c.shared_entry.ensures ∙ ap (λ o. page_by path (state_of (option_copied o))) c.in_default.is))
