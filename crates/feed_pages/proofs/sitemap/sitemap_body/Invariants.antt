use Rattle.std.proofs.Common.{◌≡◌, ◌++◌, drop, false, flat_map}
use Rattle.std.specs.String.{string_bytes}
use Rattle.feed_pages.specs.Located.{has_brace}
use Rattle.feed_pages.specs.Sitemap.{addresses, map_head, url_line}
use Rattle.feed_pages.proofs.sitemap.sitemap_body.Given as goal

abbrev pub invariant-loop-page : goal.invariant-loop-page
invariant-loop-page l = record {
  text : string_bytes l.body ++ flat_map url_line (addresses l.base (drop l.page-index l.page-items)) ≡ map_head ++ flat_map url_line (addresses l.base l.page-items);
  plain : has_brace (string_bytes l.body) ≡ false;
}
