use Rattle.std.proofs.Common.{arith, ◌∙◌, ap, ◌++◌, ◌∷◌, [], List, ℕ}
use Rattle.std.proofs.lemmas.Bool.{le-ltb}
use Rattle.site_base.specs.Places.{count_below}
use Rattle.site_base.specs.Clash.{is_below}
use Rattle.site_base.proofs.Clashing.{has_below_test, has_below_none}
use Rattle.site_base.proofs.path_map.PathMap.has_below.Goals as goal

pub returns-then-place-len : goal.returns-then-place-len
returns-then-place-len g c =
    has_below_test c.args.folder.now c.args.self.now.entries.items _ c.index.result.now _ c.args.self.now.rises
    (c.place_inside-place.ensures.is ∙ ap (λ (k : List ℕ). count_below (k ++ 47 ∷ []) c.args.self.now.entries.items) c.as_bytes.ensures.bytes)
    (omega arith) (c.is_below.ensures ∙ ap (λ e. is_below e.0 c.args.folder.now) c.index.ensures)

pub returns-else-place-len : goal.returns-else-place-len
returns-else-place-len g c =
    let at = c.place_inside-place.ensures.is ∙ ap (λ (k : List ℕ). count_below (k ++ 47 ∷ []) c.args.self.now.entries.items) c.as_bytes.ensures.bytes in
    le-ltb _ _ c.if-place-len.false ∙ has_below_none c.args.folder.now c.args.self.now.entries.items c.args.self.now.rises (omega (arith, at))
