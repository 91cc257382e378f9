use Rattle.std.proofs.Common.{◌≡◌, ℕ, List, take, true}
use Rattle.std.specs.List.{list_all}
use Rattle.read_record.specs.Forms.{is_layout}
use Rattle.site_world.specs.Shelves.{shelved}
use Rattle.site_world.specs.Sights.{layout_named, layout_value}
use Rattle.site_world.proofs.shelves.layouts.Given as goal

abbrev pub invariant-loop-layout : goal.invariant-loop-layout
invariant-loop-layout l =
    ((x : List ℕ) → shelved l.made x ≡ layout_named x (take l.layout-index l.layouts))
    × (list_all (λ layout. is_layout (layout_value layout)) (take l.layout-index l.layouts) ≡ true)
