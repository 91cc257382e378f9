-- Where directives end, a text may be cut.
use Rattle.std.proofs.Common.{ℕ, ◌<◌, ◌+◌, List, length, get_or, arith, rules}
use Rattle.std.specs.Prelude.{Option, Some, None, IsSome, IfSome}
use Rattle.std.proofs.lemmas.Str.{IsCharBoundary-after_ascii}
use Rattle.site_dates.specs.declared.directive.Directive.{Directive}
use Rattle.site_dates.specs.Format.{IsCut, sized}

-- after a directive's letter, at place n
pub cut_after_letter : (directive : Option Directive) (part : List ℕ) (n : ℕ) → n < length part → (IsSome directive → get_or part n 0 < 128) → IfSome (sized (n + 1) directive) (λ at. IsCut part at.len)
cut_after_letter None part n lt ascii = tt
cut_after_letter (Some directive) part n lt ascii = (omega arith, λ u. IsCharBoundary-after_ascii part n u lt (ascii (search rules)))
