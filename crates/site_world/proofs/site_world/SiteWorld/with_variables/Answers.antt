use Rattle.std.proofs.Common.{List, ap, sym, ◌∙◌}
use Rattle.std.specs.List.{list_all, position}
use Rattle.memo_table.specs.Names.{same_name}
use Rattle.read_record.specs.Forms.{is_layout}
use Rattle.site_items.specs.declared.layout_file.LayoutFile.{LayoutFile}
use Rattle.site_reader.specs.declared.site_item.SiteItem.{SiteItem}
use Rattle.site_world.proofs.FormLaws.{few, differ, forms, fixed}
use Rattle.site_world.specs.Sights.{copy_at, include_named, layout_named, layout_value}
use Rattle.site_world.proofs.site_world.SiteWorld.with_variables.Goals as goal

pub invariant_of-result-clause-few : goal.invariant_of-result-clause-few
invariant_of-result-clause-few c = few c.args.held.now c.args.site.now c.requires.lawful c.copied_bytes-fixed.ensures.within

pub invariant_of-result-clause-places_are : goal.invariant_of-result-clause-places_are
invariant_of-result-clause-places_are c = λ name. c.in_ok-places.ensures name ∙ ap (λ (items : List SiteItem). position (λ item. same_name item.name name) items) c.as_slice-5.ensures

pub invariant_of-result-clause-layouts_are : goal.invariant_of-result-clause-layouts_are
invariant_of-result-clause-layouts_are c = λ x. c.in_ok-layouts.ensures.are x ∙ ap (layout_named x) c.as_slice.ensures

pub invariant_of-result-clause-includes_are : goal.invariant_of-result-clause-includes_are
invariant_of-result-clause-includes_are c = λ x. c.in_ok-includes.ensures x ∙ ap (include_named x) c.as_slice-2.ensures

pub invariant_of-result-clause-variables_are : goal.invariant_of-result-clause-variables_are
invariant_of-result-clause-variables_are c = λ x. c.requires.variables x

pub invariant_of-result-clause-copies_are : goal.invariant_of-result-clause-copies_are
invariant_of-result-clause-copies_are c = λ path. c.in_ok-copies.ensures path ∙ ap (copy_at path) c.as_slice-3.ensures

pub invariant_of-result-clause-fixed_is : goal.invariant_of-result-clause-fixed_is
invariant_of-result-clause-fixed_is c =
    c.copied_bytes-fixed.ensures.is ∙ fixed c.in_ok-copies.copies c.args.held.now c.args.site.now (λ x. c.in_ok-copies.ensures x ∙ ap (copy_at x) c.as_slice-3.ensures)

pub invariant_of-result-clause-differ : goal.invariant_of-result-clause-differ
invariant_of-result-clause-differ c = differ c.args.held.now c.args.site.now c.requires.lawful

pub invariant_of-result-clause-forms_are : goal.invariant_of-result-clause-forms_are
invariant_of-result-clause-forms_are c =
    forms c.args.held.now c.args.site.now c.requires.lawful c.requires.moment (ap (list_all (λ (layout : LayoutFile). is_layout (layout_value layout))) (sym c.as_slice.ensures) ∙ c.in_ok-layouts.ensures.formed)
