use Rattle.std.proofs.Common.{◌≡◌, ◌∙◌, ◌++◌, ◌+◌, ap, arith, drop, rules, subst, sym}
use Rattle.std.specs.Prelude.{filter_map}
use Rattle.feed_pages.specs.Sitemap.{PagesRise}
use Rattle.site_reader.specs.Generating.{if_mapped}
use Rattle.site_reader.proofs.EachLaws.{all_taken, at_front, none_left}
use Rattle.site_reader.proofs.MapLaws.{listed_rise, one_more}
use Rattle.site_reader.proofs.mapping.listed_of.Goals as goal

pub loop-entry-preserved : goal.loop-entry-preserved
loop-entry-preserved c =
    let at = c.loop-entry.entry-index in
    let page = if_mapped c.args.items.now c.args.copies.now in
    let rest = drop (at + 1) c.args.won.now in
    ap (λ ps. ps ++ filter_map page rest) c.in_ok-push_mapped.ensures
    ∙ one_more c.loop-entry.pages.items (page c.entry-item.result) (filter_map page rest)
    ∙ ap (λ es. c.loop-entry.pages.items ++ filter_map page es) (sym (at_front c.args.won.now at c.entry-item.result (search rules) c.entry-item.is))
    ∙ c.loop-entry.invariant

pub returns-clause-listed : goal.returns-clause-listed
returns-clause-listed c =
    let page = if_mapped c.args.items.now c.args.copies.now in
    c.from_vec.ensures
    ∙ all_taken c.loop-entry.pages.items _ (filter_map page c.args.won.now) (ap (filter_map page) (none_left c.args.won.now c.loop-entry.entry-index (omega (arith, c.loop-entry-test.false)))) c.loop-entry.invariant

pub returns-clause-rise : goal.returns-clause-rise
returns-clause-rise c =
    let page = if_mapped c.args.items.now c.args.copies.now in
    let all : c.from_vec.result ≡ filter_map page c.args.won.now =
    c.from_vec.ensures
    ∙ all_taken c.loop-entry.pages.items _ (filter_map page c.args.won.now) (ap (filter_map page) (none_left c.args.won.now c.loop-entry.entry-index (omega (arith, c.loop-entry-test.false)))) c.loop-entry.invariant in
    subst PagesRise (sym all) (listed_rise c.args.items.now c.args.copies.now c.args.won.now c.requires.rise)
