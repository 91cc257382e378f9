use Rattle.std.proofs.Common.{◌∷◌, ◌++◌, [], ℕ, Bool, List, take, ap, sym, subst, ◌∙◌}
use Rattle.std.proofs.lemmas.List.{take_more}
use Rattle.std.specs.List.{list_all}
use Rattle.std.specs.Str.{bytes_eq}
use Rattle.read_record.specs.Forms.{is_layout}
use Rattle.site_items.specs.declared.layout_file.LayoutFile.{LayoutFile}
use Rattle.site_reader.specs.Lawful.{HasHash}
use Rattle.site_world.proofs.Loops.{one_more}
use Rattle.site_world.proofs.Pushes.{list_all-push}
use Rattle.site_world.specs.Shelves.{shelved}
use Rattle.site_world.specs.Sights.{layout_value}
use Rattle.site_world.proofs.shelves.layouts.Goals as goal

pub loop-layout-preserved : goal.loop-layout-preserved
loop-layout-preserved c =
    let layouts = c.args.layouts.now in
    let i = c.loop-layout.layout-index in
    let layout = c.layout-item.result in
    let test : LayoutFile → Bool = λ layout. is_layout (layout_value layout) in (
      λ x.
          one_more (λ (x : List ℕ) (layout : LayoutFile). bytes_eq layout.name x) layout_value layouts i layout c.loop-layout-test.true (sym c.layout-item.is)
          x (shelved c.loop-layout.made x) (shelved c.add_layout.new.made x) (c.in_ok-add_layout.ensures.added x) (c.loop-layout.invariant.0 x),
      ap (list_all test) (take_more layouts i layout c.loop-layout-test.true ∙ ap (λ (y : LayoutFile). take i layouts ++ y ∷ []) (sym c.layout-item.is))
          ∙ list_all-push test (take i layouts) layout c.loop-layout.invariant.1 c.in_ok-add_layout.ensures.formed,
    )

pub add_layout-requires : goal.add_layout-requires
add_layout-requires c = subst HasHash (sym c.layout-item.is) (c.requires c.loop-layout.layout-index c.layout-item.result c.loop-layout-test.true)
