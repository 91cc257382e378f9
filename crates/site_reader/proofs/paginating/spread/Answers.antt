use Rattle.std.proofs.Common.{◌∙◌, Ok, ap, sym}
use Rattle.std.proofs.lemmas.Result.{err_from_is_err_and}
use Rattle.site_reader.proofs.PageLaws.{same_first, spread_made}
use Rattle.site_reader.proofs.paginating.spread.Goals as goal

pub returns-in_err-push_pages : goal.returns-in_err-push_pages
returns-in_err-push_pages c =
    let e = err_from_is_err_and c.from_residual-in_err-push_pages.result c.from_residual-in_err-push_pages.ensures.1 in
    rw (e.1, e.2)
    (same_first _ _ _
    (spread_made c.args.paging.now c.args.place c.args.posts.now _ _ c.args.items _ _ _ _ c.cut.ensures.own c.cut.ensures.rest c.into_vec-items.ensures c.requires.template c.index_mut.ensures.value c.in_ok-paginator.ensures c.set_paginator.ensures)
    c.in_err-push_pages.ensures)

pub returns : goal.returns
returns c =
    spread_made c.args.paging.now c.args.place c.args.posts.now _ _ c.args.items _ _ _ _ c.cut.ensures.own c.cut.ensures.rest c.into_vec-items.ensures c.requires.template c.index_mut.ensures.value c.in_ok-paginator.ensures c.set_paginator.ensures
    ∙ c.in_ok-push_pages.ensures
    ∙ ap Ok (sym c.from_vec.ensures)
