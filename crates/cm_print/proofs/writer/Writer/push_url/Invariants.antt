use Rattle.std.proofs.Common.{◌≡◌, ◌++◌, drop}
use Rattle.site_text.specs.Urls.{url_text}
use Rattle.cm_print.specs.Writing.{written}
use Rattle.cm_print.proofs.writer.Writer.push_url.Given as goal

abbrev pub invariant-loop-byte : goal.invariant-loop-byte
invariant-loop-byte l = record {
  so_far : written l.self ++ url_text (drop l.byte-index l.byte-items) ≡ written l.initial.self ++ url_text l.byte-items;
  most : l.self.most ≡ l.initial.self.most;
}
