use Rattle.std.proofs.Common.{sym, subst, ap, ◌∙◌, drop}
use Rattle.std.specs.Str.{IsUtf8}
use Rattle.std.proofs.lemmas.List.{take_rest}
use Rattle.std.proofs.lemmas.Str.{IsUtf8-had}
use Rattle.site_base.proofs.text.FileEnd.as_str.Goals as goal

pub from_utf8_unchecked-requires : goal.from_utf8_unchecked-requires
from_utf8_unchecked-requires c =
    let start = c.self.inside.start in
    subst IsUtf8 (sym (take_rest _ start ∙ ap (λ file. drop start file) c.as_slice.ensures)) (IsUtf8-had _ c.self.invariant.1)
