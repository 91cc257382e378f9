use Rattle.std.proofs.Common.{ap, ◌∙◌, sym, if◌then◌else◌}
use Rattle.std.proofs.lemmas.Int.{to_z-of_z}
use Rattle.site_files.specs.Places.{post_place}
use Rattle.site_files.specs.PostNames.{is_post_name}
use Rattle.site_files.specs.declared.place.Place.TheVariants as place
use Rattle.site_files.proofs.place.post_place.Goals as goal

pub returns-then-is_post_name : goal.returns-then-is_post_name
unfolding post_place
returns-then-is_post_name c =
    let fits = simp (to_z-of_z, c.ranges.offset) at c.is_post_name.ensures in
    ap (λ b. if b then place.Post else place.Nowhere) (sym c.if-is_post_name.true ∙ fits ∙ ap (is_post_name c.args.offset) c.file_name.ensures)

pub returns-else-is_post_name : goal.returns-else-is_post_name
unfolding post_place
returns-else-is_post_name c =
    let fits = simp (to_z-of_z, c.ranges.offset) at c.is_post_name.ensures in
    ap (λ b. if b then place.Post else place.Nowhere) (sym c.if-is_post_name.false ∙ fits ∙ ap (is_post_name c.args.offset) c.file_name.ensures)
