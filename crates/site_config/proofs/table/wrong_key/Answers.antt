use Rattle.std.proofs.Common.{ℕ, Bool, not, List, ◌∙◌, ap, sym, rules, tests, refl}
use Rattle.std.specs.Prelude.{map}
use Rattle.std.specs.Slice.Iter.{iter_rest}
use Rattle.std.specs.Option.{option_map}
use Rattle.std.specs.List.{find}
use Rattle.std.specs.Borrow.{Bor}
use Rattle.std.proofs.lemmas.Iterator.{YieldsList-from_slice}
use Rattle.std.proofs.lemmas.Iterator.Search.{find_from_yields_List}
use Rattle.site_base.specs.Plain.{Plain}
use Rattle.site_config.specs.Forms.{given, setting, fits}
use Rattle.site_config.specs.Table.{rows}
use Rattle.site_config.specs.declared.form.Form.{Form}
use Rattle.site_config.specs.declared.table.Row.{Row}
use Rattle.site_config.proofs.TableLaws.{entry, found_key}
use Rattle.site_config.proofs.table.wrong_key.Goals as goal

abbrev wrong : Plain → Plain → List ℕ × Form → Bool
wrong collections all row = not (fits collections row.1 (setting row.0 all))

pub returns-in-Some : goal.returns-in-Some
unfolding rows
returns-in-Some c =
    let all = given c.args.all in let p = wrong (given c.setting-collections.result) all in
    ap (option_map (λ (b : Bor Row). b.now.key.now)) (sym c.in-Some.is)
    ∙ found_key p (iter_rest c.iter.result) c.find-wrong.result (find_from_yields_List (λ (r : Row). p (r.key.now, r.form)) _ _ c.find-wrong.result c.find-wrong.ensures.ran (YieldsList-from_slice (iter_rest c.iter.result) refl) (λ x b q k. search (rules, tests)))
    ∙ ap (λ (rs : List Row). option_map (λ (e : List ℕ × Form). e.0) (find p (map entry rs))) c.iter.ensures.rest
    ∙ ap (λ (k : Plain). option_map (λ (e : List ℕ × Form). e.0) (find (wrong k all) rows)) c.setting-collections.ensures

pub returns-in-None : goal.returns-in-None
unfolding rows
returns-in-None c =
    let all = given c.args.all in let p = wrong (given c.setting-collections.result) all in
    ap (option_map (λ (b : Bor Row). b.now.key.now)) (sym c.in-None.is)
    ∙ found_key p (iter_rest c.iter.result) c.find-wrong.result (find_from_yields_List (λ (r : Row). p (r.key.now, r.form)) _ _ c.find-wrong.result c.find-wrong.ensures.ran (YieldsList-from_slice (iter_rest c.iter.result) refl) (λ x b q k. search (rules, tests)))
    ∙ ap (λ (rs : List Row). option_map (λ (e : List ℕ × Form). e.0) (find p (map entry rs))) c.iter.ensures.rest
    ∙ ap (λ (k : Plain). option_map (λ (e : List ℕ × Form). e.0) (find (wrong k all) rows)) c.setting-collections.ensures
