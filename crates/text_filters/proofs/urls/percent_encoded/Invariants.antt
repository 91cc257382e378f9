use Rattle.std.proofs.Common.{◌≡◌, ◌++◌, drop, flat_map}
use Rattle.std.specs.String.{string_bytes}
use Rattle.text_filters.specs.Urls.{url_byte}
use Rattle.text_filters.proofs.urls.percent_encoded.Given as goal

abbrev pub invariant-loop-byte : goal.invariant-loop-byte
invariant-loop-byte l = string_bytes l.made ++ flat_map (url_byte l.code) (drop l.byte-index l.byte-items) ≡ flat_map (url_byte l.code) l.byte-items
