use Rattle.std.proofs.Common.{◌≡◌, ◌++◌, codes, length}
use Rattle.std.specs.Prelude.{flat_map, take}
use Rattle.std.specs.Fmt.{decimal}
use Rattle.std.specs.String.{string_bytes}
use Rattle.site_session.specs.Bytes.{broken_line}
use Rattle.site_session.proofs.reply.links_text.Given as goal

abbrev pub invariant-loop-link : goal.invariant-loop-link
invariant-loop-link l = string_bytes l.text ≡ codes "links " ++ (decimal (length l.broken) ++ (codes " scanned=" ++ (decimal l.scanned ++ (codes "\n" ++ flat_map broken_line (take l.link-index l.broken)))))
