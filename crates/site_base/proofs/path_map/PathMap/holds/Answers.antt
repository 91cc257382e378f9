use Rattle.std.proofs.Common.{arith, ◌∙◌, ap, List, ℕ}
use Rattle.std.specs.Str.{bytes_eq}
use Rattle.std.proofs.lemmas.Bool.{le-ltb}
use Rattle.site_base.proofs.Clashing.{holds_test, holds_none}
use Rattle.site_base.proofs.path_map.PathMap.holds.Goals as goal

pub returns-then-place-len : goal.returns-then-place-len
returns-then-place-len g c =
    holds_test c.args.path.now c.args.self.now.entries.items _ c.index.result.now _ c.args.self.now.rises c.place-place.ensures.is (omega arith)
    (c.eq.ensures ∙ ap (λ (k : List ℕ). bytes_eq k c.args.path.now) (c.as_bytes.ensures.bytes ∙ ap (λ e. e.0) c.index.ensures))

pub returns-else-place-len : goal.returns-else-place-len
returns-else-place-len g c =
    le-ltb _ _ c.if-place-len.false ∙ holds_none c.args.path.now c.args.self.now.entries.items c.args.self.now.rises (omega (arith, c.place-place.ensures.is))
