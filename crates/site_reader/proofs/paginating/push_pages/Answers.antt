use Rattle.std.proofs.Common.{◌≡◌, ◌∙◌, ◌+◌, ◌-◌, suc, ap, arith}
use Rattle.std.proofs.lemmas.Result.{err_from_is_err_and}
use Rattle.site_reader.specs.Paginating.{with_pages}
use Rattle.site_reader.proofs.PageLaws.{pages_done, pages_first, pages_next}
use Rattle.site_reader.proofs.paginating.push_pages.Goals as goal

pub loop-number-preserved : goal.loop-number-preserved
loop-number-preserved c =
    let paging = c.args.paging.now in
    let number = c.loop-number.number in
    let items = c.loop-number.items.items in
    let more : suc (paging.total_pages - (number + 1)) ≡ paging.total_pages - number = omega (arith, c.loop-number-test.true) in
    pages_next paging (paging.total_pages - (number + 1)) (number + 1) c.loop-number.rest.now items _ _ _ c.cut.ensures.own c.cut.ensures.rest c.in_ok-push_page.ensures
    ∙ ap (λ n. with_pages paging n (number + 1) c.loop-number.rest.now items) more
    ∙ c.loop-number.invariant

pub returns-in_err-push_page : goal.returns-in_err-push_page
returns-in_err-push_page c =
    let paging = c.args.paging.now in
    let number = c.loop-number.number in
    let items = c.loop-number.items.items in
    let more : suc (paging.total_pages - (number + 1)) ≡ paging.total_pages - number = omega (arith, c.loop-number-test.true) in
    let e = err_from_is_err_and c.from_residual.result c.from_residual.ensures.1 in
    rw (e.1, e.2)
    (pages_first paging (paging.total_pages - (number + 1)) (number + 1) c.loop-number.rest.now items _ _ _ c.cut.ensures.own c.in_err-push_page.ensures
    (ap (λ n. with_pages paging n (number + 1) c.loop-number.rest.now items) more ∙ c.loop-number.invariant))

pub returns : goal.returns
returns c =
    pages_done c.args.paging.now (c.args.paging.now.total_pages - c.loop-number.number) (c.loop-number.number + 1) c.loop-number.rest.now c.loop-number.items.items _ (omega (arith, c.loop-number-test.false)) c.loop-number.invariant
