use Rattle.std.proofs.Common.{rules, ◌≡◌, ◌++◌, OnOk}
use Rattle.std.specs.String.{string_bytes}
use Rattle.site_text.specs.Urls.{url_byte}
use Rattle.feed_pages.proofs.SitemapLaws.{byte_keeps_braces, for_ok}
use Rattle.feed_pages.proofs.sitemap.push_byte.Goals as goal

pub returns-else-byte-eq38-clause-plain : goal.returns-else-byte-eq38-clause-plain
returns-else-byte-eq38-clause-plain c =
    let text : OnOk c.push.result (string_bytes c.push.new.self ≡ string_bytes c.args.text.now ++ url_byte c.args.byte) = search rules in
    for_ok c.push.result (byte_keeps_braces (string_bytes c.args.text.now) (string_bytes c.push.new.self) c.args.byte) text
