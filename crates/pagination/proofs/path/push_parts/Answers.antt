use Rattle.std.proofs.Common.{◌++◌, ◌∙◌, ap, sym, flat_map, lit<}
use Rattle.std.specs.String.{string_bytes}
use Rattle.std.proofs.lemmas.Iterator.Consumers.{YieldsList-at, YieldsList-end}
use Rattle.std.proofs.lemmas.Iterator.Splits.{YieldsList-from_str_split}
use Rattle.std.proofs.lemmas.List.Folds.{flat_map-map}
use Rattle.pagination.specs.Pages.{numbered}
use Rattle.pagination.proofs.path.push_parts.Goals as goal

pub returns : goal.returns
returns c =
    let all = YieldsList-at c.into_iter-part-iterator.ensures.into_iter_gives (YieldsList-from_str_split 58 c.args.rest.now (lit< tt) c.split-part-items.ensures.text c.split-part-items.ensures.has_more c.split-part-items.ensures.pattern) in
    let end = YieldsList-end all c.loop-part.yielded _ c.loop-part.yielded_by _ _ c.in-None.is c.next.ensures.steps in
    let each = flat_map-map (numbered c.args.digits.now) (λ part. part.now) c.loop-part.yielded in
    c.loop-part.invariant ∙ ap (λ made. string_bytes c.args.path.now ++ made) (sym each ∙ ap (flat_map (numbered c.args.digits.now)) end.0)
