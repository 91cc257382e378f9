use Rattle.std.proofs.Common.{◌<◌, ℕ, suc, List, Option, length, ◌∙◌, ap, drop, add-one, arith}
use Rattle.csv.specs.Records.{fields_of}
use Rattle.data_files.specs.Columns.{seen, placed, place_set}
use Rattle.data_files.proofs.TableLaws.{placed_step}
use Rattle.data_files.proofs.tables.columns_of.Goals as goal

pub loop-place-preserved : goal.loop-place-preserved
loop-place-preserved c =
    let names = fields_of c.args.names.now in let p = c.loop-place.place in let old = seen c.loop-place.places.entries in
    let lt : p < length names = omega (arith, c.loop-place-test.true, c.len-place-end.ensures) in
    rw add-one (
    ap (placed (drop (suc p) names) (suc p)) (c.in_ok-set_place.ensures ∙ ap (λ (o : Option (List ℕ)). place_set o p old) c.get.ensures.value)
    ∙ placed_step names p p old lt ∙ c.loop-place.invariant)
