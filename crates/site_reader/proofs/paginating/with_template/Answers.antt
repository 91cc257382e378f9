use Rattle.std.proofs.Common.{◌∙◌, Some, ap, arith, length, sym}
use Rattle.std.specs.Prelude.{slice_get}
use Rattle.site_reader.specs.Paginating.{posts, with_template}
use Rattle.site_reader.specs.declared.paging.Paging.{Paging}
use Rattle.site_reader.proofs.PageLaws.{found_there, none_there, not_spread, same_found, spread_is}
use Rattle.site_reader.proofs.paginating.with_template.Goals as goal

pub returns-then-count-eq0 : goal.returns-then-count-eq0
returns-then-count-eq0 c =
    not_spread c.args.config.now c.args.per_page c.args.place c.args.items (slice_get c.args.items c.args.place)
    (omega (
      arith,
      c.if-count-eq0.true,
      c.len-count.ensures,
      c.in_ok-posts.posts.ok.0,
      c.in_ok-posts.ensures.few,
      c.requires.few,
      ap length c.as_slice.ensures,
      ap length (c.in_ok-posts.ensures.posts ∙ ap posts c.as_slice.ensures),
    ))

pub returns-in-None : goal.returns-in-None
returns-in-None c =
    ap (with_template c.args.config.now c.args.per_page c.args.items c.args.place)
    (ap (λ is. slice_get is c.args.place) (sym c.as_slice-2.ensures) ∙ none_there c.as_slice-2.result.now c.args.place (sym c.in-None.ensures.lookup.0))

pub spread-requires-clause-template : goal.spread-requires-clause-template
spread-requires-clause-template c =
    ap (λ is. slice_get is c.args.place) (sym c.as_slice-2.ensures)
    ∙ found_there c.as_slice-2.result.now c.args.place c.in-Some.template.now (sym c.in-Some.ensures.lookup.0) c.in-Some.ensures.lookup.1
    ∙ ap (λ (p : Paging). Some p.template) (sym c.in_ok-paging-in-Some.ensures)

pub returns : goal.returns
returns c =
    same_found _ _ c.spread.result
    (sym (spread_is c.args.config.now c.args.per_page c.args.place c.args.items c.in-Some.template.now (slice_get c.args.items c.args.place) _ _ c.as_slice-3.result.now c.in_ok-paging-in-Some.ensures
    (c.as_slice-3.ensures.value ∙ c.in_ok-posts.ensures.posts ∙ ap posts c.as_slice.ensures)
    (ap (λ is. slice_get is c.args.place) (sym c.as_slice-2.ensures)
    ∙ found_there c.as_slice-2.result.now c.args.place c.in-Some.template.now (sym c.in-Some.ensures.lookup.0) c.in-Some.ensures.lookup.1)
    (omega (arith, c.if-count-eq0.false))
    (omega (
      arith,
      c.len-count.ensures,
      c.in_ok-posts.posts.ok.0,
      c.in_ok-posts.ensures.few,
      c.requires.few,
      ap length c.as_slice.ensures,
      ap length c.as_slice-3.ensures.value,
    ))))
    c.spread.ensures
