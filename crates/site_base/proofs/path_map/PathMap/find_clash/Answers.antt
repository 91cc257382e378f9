use Rattle.std.proofs.Common.{arith, sym, ◌∙◌, ap, List, ℕ, Some}
use Rattle.std.specs.List.{find}
use Rattle.std.specs.FinMap.{keys}
use Rattle.site_base.specs.PathMap.{as_map}
use Rattle.site_base.specs.Places.{paths_of}
use Rattle.site_base.specs.Clash.{has_below}
use Rattle.site_base.proofs.Clashing.{search_found, search_more, search_none, keys_mapped, clash_free_from_search}
use Rattle.site_base.proofs.path_map.PathMap.find_clash.Goals as goal

pub returns-then-has_below-clause-first : goal.returns-then-has_below-clause-first
returns-then-has_below-clause-first g c =
    let m = c.args.self.now in
    ap (λ e. Some e.0) c.entry-item.is
    ∙ search_found (λ folder. has_below folder (keys (as_map m))) c.deref-entry-items.result.now c.loop-entry.entry-index c.entry-item.result c.loop-entry-test.true
    (ap (λ e. has_below e.0 (keys (as_map m))) (sym c.entry-item.is) ∙ sym c.has_below.ensures ∙ c.if-has_below.true) c.loop-entry.invariant
    ∙ ap (λ es. find (λ folder. has_below folder (keys (as_map m))) (paths_of es)) c.deref-entry-items.ensures.value
    ∙ ap (λ (ks : List (List ℕ)). find (λ folder. has_below folder (keys (as_map m))) ks) (sym (keys_mapped m.entries.items m.rises))

pub loop-entry-preserved : goal.loop-entry-preserved
loop-entry-preserved g c =
    let m = c.args.self.now in
    search_more (λ folder. has_below folder (keys (as_map m))) c.deref-entry-items.result.now c.loop-entry.entry-index c.entry-item.result c.loop-entry-test.true
    (ap (λ e. has_below e.0 (keys (as_map m))) (sym c.entry-item.is) ∙ sym c.has_below.ensures ∙ c.if-has_below.false) c.loop-entry.invariant

pub returns-clause-first : goal.returns-clause-first
returns-clause-first g c =
    let m = c.args.self.now in
    search_none (λ folder. has_below folder (keys (as_map m))) c.deref-entry-items.result.now c.loop-entry.entry-index (omega arith) c.loop-entry.invariant
    ∙ ap (λ es. find (λ folder. has_below folder (keys (as_map m))) (paths_of es)) c.deref-entry-items.ensures.value
    ∙ ap (λ (ks : List (List ℕ)). find (λ folder. has_below folder (keys (as_map m))) ks) (sym (keys_mapped m.entries.items m.rises))

pub returns-clause-clash_free : goal.returns-clause-clash_free
returns-clause-clash_free g c =
    let m = c.args.self.now in
    λ is_none. clash_free_from_search (as_map m)
    (search_none (λ folder. has_below folder (keys (as_map m))) c.deref-entry-items.result.now c.loop-entry.entry-index (omega arith) c.loop-entry.invariant
    ∙ ap (λ es. find (λ folder. has_below folder (keys (as_map m))) (paths_of es)) c.deref-entry-items.ensures.value
    ∙ ap (λ (ks : List (List ℕ)). find (λ folder. has_below folder (keys (as_map m))) ks) (sym (keys_mapped m.entries.items m.rises)))
