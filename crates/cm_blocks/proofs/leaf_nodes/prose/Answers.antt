use Rattle.std.proofs.Common.{◌≡◌, IfOk, IsUtf8, List, ap, length, subst, sym, ℕ, ◌∙◌}
use Rattle.markdown_grammar.specs.Definitions.{after_definitions}
use Rattle.cm_blocks.proofs.ProseLaws.{front_cut, prose_is_front}
use Rattle.cm_blocks.proofs.leaf_nodes.prose.Goals as goal

pub into_front-requires : goal.into_front-requires
into_front-requires c =
    front_cut c.args.lines c.in_ok-rest.rest.now c.trim-text.result.now (subst IsUtf8 c.as_str-all.ensures c.as_str-all.utf8) c.trim-text.utf8 (c.in_ok-rest.ensures ∙ ap (λ (u : List ℕ). after_definitions u) c.inside.ensures)
    (c.if-rest-all.true ∙ ap (λ (u : List ℕ). length u) c.as_str-all.ensures) (sym c.class_len.ensures.value ∙ c.if-class_len-eq0.true) c.trim-text.ensures

pub returns-then-class_len-eq0 : goal.returns-then-class_len-eq0
returns-then-class_len-eq0 c =
    subst (λ (t : List ℕ). IfOk c.into_front.result (λ text. text ≡ t))
    (prose_is_front c.args.lines c.in_ok-rest.rest.now c.trim-text.result.now (c.in_ok-rest.ensures ∙ ap (λ (u : List ℕ). after_definitions u) c.inside.ensures)
    (c.if-rest-all.true ∙ ap (λ (u : List ℕ). length u) c.as_str-all.ensures) (sym c.class_len.ensures.value ∙ c.if-class_len-eq0.true) c.trim-text.ensures)
    c.into_front.ensures
