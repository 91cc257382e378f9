use Rattle.std.proofs.Common.{◌≡◌, true, false, ◌&&◌, [], length, drop, nat_eq, sym, ap, ◌∙◌}
use Rattle.std.specs.List.{starts_with}
use Rattle.std.proofs.lemmas.List.{take_rest}
use Rattle.site_base.specs.Clash.{is_below}
use Rattle.site_files.proofs.Starts.{is_below-parts}
use Rattle.site_files.proofs.choosing.is_below.Goals as goal

pub returns-then-starts_with : goal.returns-then-starts_with
returns-then-starts_with c =
    let path = c.args.path.now in
    let folder = c.args.folder.now in
    let starts : starts_with nat_eq path folder ≡ true = sym c.starts_with.ensures.value ∙ c.if-starts_with.true in
    c.begins_with_slash.ensures
    ∙ ap (λ t. is_below t []) (take_rest path (length folder))
    ∙ sym (is_below-parts path folder ∙ ap (λ b. b && is_below (drop (length folder) path) []) starts)

pub returns-else-starts_with : goal.returns-else-starts_with
returns-else-starts_with c =
    let path = c.args.path.now in
    let folder = c.args.folder.now in
    let starts : starts_with nat_eq path folder ≡ false = sym c.starts_with.ensures.value ∙ c.if-starts_with.false in
    c.if-starts_with.false ∙ sym (is_below-parts path folder ∙ ap (λ b. b && is_below (drop (length folder) path) []) starts)
