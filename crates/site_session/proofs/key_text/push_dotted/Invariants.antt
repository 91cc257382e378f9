use Rattle.std.proofs.Common.{◌≡◌, ◌++◌, drop}
use Rattle.std.specs.String.{string_bytes}
use Rattle.site_base.specs.View.{items_of}
use Rattle.site_session.specs.KeyTexts.{dotted}
use Rattle.site_session.proofs.key_text.push_dotted.Given as goal

abbrev pub invariant-loop-key : goal.invariant-loop-key
invariant-loop-key l = string_bytes l.text ++ dotted (items_of (drop l.key-index l.keys)) ≡ string_bytes l.fn.text ++ dotted (items_of l.keys)
