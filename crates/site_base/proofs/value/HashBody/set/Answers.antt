use Rattle.std.proofs.Common.{◌∙◌, ap, ℕ, List}
use Rattle.std.proofs.Math.ListN.{set as set_at}
use Rattle.std.specs.List.{position}
use Rattle.std.specs.Str.{bytes_eq}
use Rattle.site_base.specs.Plain.{set}
use Rattle.site_base.specs.View.{plain, pairs_of}
use Rattle.site_base.specs.declared.value.Pair.{Pair}
use Rattle.site_base.proofs.ValueLaws.{pair_of, set_found, set_missing}
use Rattle.site_base.proofs.value.HashBody.set.Goals as goal

pub returns-in-Some-clause-ok : goal.returns-in-Some-clause-ok
returns-in-Some-clause-ok c =
    let key = c.args.key in
    ap (λ (p : Pair). pairs_of (set_at c.self.inside.pairs.items c.in-Some.place (pair_of p.key c.args.value))) c.index_mut.ensures.value
    ∙ set_found key c.args.value c.self.inside.pairs.items c.in-Some.place c.index_mut.result.now
    (c.in-Some.ensures ∙ ap (λ (k : List ℕ). position (λ p. bytes_eq k p.key) c.as_slice-2.result.now) c.as_str.ensures ∙ ap (λ (ps : List Pair). position (λ p. bytes_eq key p.key) ps) c.as_slice-2.ensures.value)
    ∙ ap (set key (plain c.args.value)) c.self.view_is

pub returns-in_ok-add_pair-in-None-clause-ok : goal.returns-in_ok-add_pair-in-None-clause-ok
returns-in_ok-add_pair-in-None-clause-ok c =
    let key = c.args.key in
    ap pairs_of c.in_ok-add_pair-in-None.ensures.ok
    ∙ set_missing key c.args.value c.self.inside.pairs.items
    (c.in-None.ensures ∙ ap (λ (k : List ℕ). position (λ p. bytes_eq k p.key) c.as_slice-2.result.now) c.as_str.ensures ∙ ap (λ (ps : List Pair). position (λ p. bytes_eq key p.key) ps) c.as_slice-2.ensures.value)
    ∙ ap (set key (plain c.args.value)) c.self.view_is
