use Rattle.std.proofs.Common.{◌≡◌, ◌++◌, drop}
use Rattle.std.specs.Prelude.{flat_map}
use Rattle.std.specs.String.{string_bytes}
use Rattle.site_session.specs.Bytes.{why_line}
use Rattle.site_session.proofs.reply.push_reasons.Given as goal

abbrev pub invariant-loop-one : goal.invariant-loop-one
invariant-loop-one l = string_bytes l.text ++ flat_map why_line (drop l.one-index l.why) ≡ string_bytes l.fn.text ++ flat_map why_line l.why
