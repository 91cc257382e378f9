use Rattle.std.proofs.Common.{◌∙◌, List, ap, drop, take, length}
use Rattle.std.specs.Prelude.{min}
use Rattle.std.proofs.lemmas.List.{take_rest}
use Rattle.site_base.specs.View.{items_of}
use Rattle.site_base.specs.declared.value.Value.{Value}
use Rattle.text_filters.specs.Spans.{items_upto}
use Rattle.text_filters.proofs.CharacterLaws.{fewer, items_before, items_behind}
use Rattle.text_filters.proofs.spans.part.Goals as goal

pub returns : goal.returns
returns c =
    let vs = c.args.values.now in let rest = drop c.args.place vs in
    ap (λ (us : List Value). items_of (take c.min.result us)) (take_rest vs c.args.place)
    ∙ ap items_of (fewer c.args.len c.min.result rest (c.min.ensures ∙ ap (λ (us : List Value). min (length us) c.args.len) (take_rest vs c.args.place)))
    ∙ items_before c.args.len rest
    ∙ ap (items_upto c.args.len) (items_behind c.args.place vs)
