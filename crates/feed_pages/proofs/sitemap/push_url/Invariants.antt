use Rattle.std.proofs.Common.{◌≡◌, ◌++◌, drop}
use Rattle.std.specs.String.{string_bytes}
use Rattle.site_text.specs.Urls.{url_text}
use Rattle.feed_pages.specs.Located.{has_brace}
use Rattle.feed_pages.proofs.sitemap.push_url.Given as goal

abbrev pub invariant-loop-byte : goal.invariant-loop-byte
invariant-loop-byte l = record {
  text : string_bytes l.text ++ url_text (drop l.byte-index l.byte-items) ≡ string_bytes l.initial.text ++ url_text l.byte-items;
  plain : has_brace (string_bytes l.text) ≡ has_brace (string_bytes l.initial.text);
}
