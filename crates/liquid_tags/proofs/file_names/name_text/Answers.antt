use Rattle.std.proofs.Common.{◌∙◌, ◌+◌, ◌++◌, ap, sym, refl, subst, drop, List, ℕ}
use Rattle.std.proofs.lemmas.Result.{err_from_is_err_and}
use Rattle.std.specs.String.{string_bytes}
use Rattle.read_record.specs.Answers.{Stops}
use Rattle.read_record.specs.Queries.{run}
use Rattle.liquid_values.specs.Standing.{place_of}
use Rattle.liquid_tags.proofs.WalkLaws.{walked, walk_stops}
use Rattle.liquid_tags.specs.FileNames.{name_behind, part_text}
use Rattle.liquid_tags.proofs.file_names.name_text.Goals as goal

pub returns-in_err-text-clause-gives : goal.returns-in_err-text-clause-gives
returns-in_err-text-clause-gives g c =
    let ex = g.X.Excerpts.excerpts c.args.place.now.levels in let p = place_of c.args.place.now in let vars = c.args.assigned.now in
    let s = g.L.Look.trace c.part_text.new.look in let stop = c.in_err-text.field-0.0 in
    let e = err_from_is_err_and c.from_residual.result c.from_residual.ensures.1 in
    rw (e.1, e.2)
    (subst (λ r. Stops r stop s) (sym c.loop-part.invariant.rest)
    (walk_stops (name_behind ex p vars) (λ made q. part_text ex p vars q) (λ made q t. made ++ t) (λ _ _ _. refl)
    c.args.parts.now c.loop-part.part-index c.part-item.result c.loop-part-test.true c.part-item.is (string_bytes c.loop-part.name)
    (g.L.Look.view c.loop-part.look) (g.L.Look.trace c.loop-part.look) stop s c.in_err-text.ensures.gives))

pub loop-part-preserved : goal.loop-part-preserved
loop-part-preserved g c =
    let ex = g.X.Excerpts.excerpts c.args.place.now.levels in let p = place_of c.args.place.now in let vars = c.args.assigned.now in
    let qs = c.args.parts.now in let i = c.loop-part.part-index in let made : List ℕ = string_bytes c.loop-part.name in
    let t : List ℕ = c.in_ok-text.text in let s = g.L.Look.trace c.part_text.new.look in
    let taken = walked (name_behind ex p vars) (λ made q. part_text ex p vars q) (λ made q t. made ++ t) (λ _ _ _. refl)
    qs i c.part-item.result c.loop-part-test.true c.part-item.is made (g.L.Look.view c.loop-part.look) (g.L.Look.trace c.loop-part.look) t s c.in_ok-text.ensures.gives in
    record {
      same = c.in_ok-text.ensures.same ∙ c.loop-part.invariant.same;
      rest = c.loop-part.invariant.rest ∙ taken ∙ ap (λ w. run w s (name_behind ex p vars (made ++ t) (drop (i + 1) qs))) (sym c.in_ok-text.ensures.same)
          ∙ ap (λ (b : List ℕ). run (g.L.Look.view c.part_text.new.look) s (name_behind ex p vars b (drop (i + 1) qs))) (sym (c.in_ok-push_str.ensures.bytes ∙ ap (λ (x : List ℕ). string_bytes c.loop-part.name ++ x) c.as_str.ensures));
    }
