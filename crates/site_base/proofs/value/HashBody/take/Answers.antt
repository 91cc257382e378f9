use Rattle.std.proofs.Common.{◌∙◌, ap, sym, List, Some}
use Rattle.std.proofs.Math.ListN.{set as set_at}
use Rattle.std.specs.List.{position}
use Rattle.std.specs.Str.{bytes_eq}
use Rattle.site_base.specs.Plain.{get, taken}
use Rattle.site_base.specs.View.{plain, pairs_of}
use Rattle.site_base.specs.declared.value.Pair.{Pair}
use Rattle.site_base.specs.declared.value.Value.{Value}
use Rattle.site_base.proofs.ValueLaws.{pair_of, get_found, get_missing, taken_found, taken_missing}
use Rattle.site_base.proofs.value.HashBody.take.Goals as goal

pub returns-in-Some-clause-value : goal.returns-in-Some-clause-value
returns-in-Some-clause-value c =
    let key = c.args.key.now in
    ap (λ (v : Value). Some (plain v)) c.replace.ensures.value
    ∙ ap (λ (p : Pair). Some (plain p.value)) c.index_mut.ensures.value
    ∙ get_found key c.self.inside.pairs.items c.in-Some.place c.index_mut.result.now (c.in-Some.ensures ∙ ap (λ (ps : List Pair). position (λ p. bytes_eq key p.key) ps) c.as_slice.ensures.value)
    ∙ ap (get key) c.self.view_is

pub returns-in-Some-clause-rest : goal.returns-in-Some-clause-rest
returns-in-Some-clause-rest c =
    let key = c.args.key.now in
    ap (λ (v : Value). pairs_of (set_at c.self.inside.pairs.items c.in-Some.place (pair_of c.index_mut.result.now.key v))) c.replace.ensures.after
    ∙ ap (λ (p : Pair). pairs_of (set_at c.self.inside.pairs.items c.in-Some.place (pair_of p.key _))) c.index_mut.ensures.value
    ∙ taken_found key c.self.inside.pairs.items c.in-Some.place c.index_mut.result.now (c.in-Some.ensures ∙ ap (λ (ps : List Pair). position (λ p. bytes_eq key p.key) ps) c.as_slice.ensures.value)
    ∙ ap (taken key) c.self.view_is

pub returns-in-None-clause-value : goal.returns-in-None-clause-value
returns-in-None-clause-value c =
    let key = c.args.key.now in
    get_missing key c.self.inside.pairs.items (c.in-None.ensures ∙ ap (λ (ps : List Pair). position (λ p. bytes_eq key p.key) ps) c.as_slice.ensures.value)
    ∙ ap (get key) c.self.view_is

pub returns-in-None-clause-rest : goal.returns-in-None-clause-rest
returns-in-None-clause-rest c =
    let key = c.args.key.now in
    sym c.self.view_is
    ∙ taken_missing key c.self.inside.pairs.items (c.in-None.ensures ∙ ap (λ (ps : List Pair). position (λ p. bytes_eq key p.key) ps) c.as_slice.ensures.value)
    ∙ ap (taken key) c.self.view_is
