use Rattle.std.proofs.Common.{◌≡◌, ◌++◌, take, length}
use Rattle.std.specs.Prelude.{codes, flat_map}
use Rattle.std.specs.Fmt.{decimal}
use Rattle.std.specs.String.{string_bytes}
use Rattle.site_session.specs.Bytes.{marked_line}
use Rattle.site_session.proofs.reply.marked_text.Given as goal

abbrev pub invariant-loop-path : goal.invariant-loop-path
invariant-loop-path l = string_bytes l.text ≡ codes "out-fault " ++ (decimal (length l.paths) ++ (codes "\n" ++ flat_map marked_line (take l.path-index l.paths)))
