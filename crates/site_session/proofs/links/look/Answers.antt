use Rattle.std.proofs.Common.{◌≡◌, ◌∙◌, ◌+◌, ◌<◌, ◌++◌, ℕ, Bool, true, false, cond, List, [], None, ap, arith, get_or, length, refl, subst, sym, take}
use Rattle.std.proofs.Math.Numerals.{add-one}
use Rattle.std.proofs.lemmas.List.{take_all}
use Rattle.std.specs.Prelude.{filter}
use Rattle.std.specs.FinMap.{entries, find, len-entries}
use Rattle.link_check.specs.Table.{Table}
use Rattle.out_tree.specs.Belief.{Belief, believed}
use Rattle.out_tree.specs.declared.state.State.{State}
use Rattle.out_tree.specs.declared.state.State.TheVariants.{Marked}
use Rattle.site_base.specs.Places.{path_cmp}
use Rattle.site_session.specs.Looking.{bytes_of, finds_new, offered}
use Rattle.site_session.specs.Pages.{LooksAtSome, Page, known_pages, page_at}
use Rattle.site_session.proofs.Looking.{Looked, entries_rise, is_new, looked_all, looked_more, looked_none, looks_at_some, new_more, no_page, none_before, of_err, pages_in, pages_more}
use Rattle.site_session.proofs.links.look.Goals.{else-branch, then-branch}
use Rattle.site_session.proofs.links.look.Goals as goal

abbrev as_number : Bool → ℕ
as_number b = cond b 1 0

abbrev nowhere : List ℕ × State
nowhere = ([], Marked)

pub loop-place-init : goal.loop-place-init
loop-place-init c = record {
  looked = subst (λ (t : Table). Looked c.args.table.now [] t) (sym c.begin.ensures) (looked_none c.args.table.now);
  count = refl;
  few = omega arith;
}

pub overflow_add-scanned : goal.overflow_add-scanned
overflow_add-scanned c = omega (arith, c.loop-place.invariant.few, c.loop-place-test.true, c.entries-place-end.type_inv)

pub returns-in_err-look_at-clause-err : goal.returns-in_err-look_at-clause-err
returns-in_err-look_at-clause-err c =
    let belief = believed c.args.keeper.now in
    of_err c.from_residual.result
    (subst (λ (t : Table). LooksAtSome (bytes_of c.args.table.now) belief (bytes_of t)) (sym c.in_err-look_at.ensures.err)
    (looks_at_some c.args.table.now c.loop-place.table belief c.loop-place.place c.loop-place.invariant.looked))

pub loop-place-preserved : goal.loop-place-preserved
loop-place-preserved c =
    let belief = believed c.args.keeper.now in
    let es = entries belief in
    let n = c.loop-place.place in
    let ps = pages_in (take n es) in
    let e = get_or es n nowhere in
    let lt : n < length es = omega (arith, c.loop-place-test.true, c.entries-place-end.ensures, len-entries belief) in
    let none : find path_cmp e.0 ps ≡ None = no_page e.0 (take n es) (none_before n es nowhere (entries_rise belief) lt) in
    let more : pages_in (take (n + 1) es) ≡ ps ++ page_at e = ap (λ (m : ℕ). pages_in (take m es)) (add-one n) ∙ pages_more es n nowhere lt in
    let l = c.loop-place.invariant.looked in
    let news : length (filter (is_new c.args.table.now) (ps ++ page_at e)) ≡ length (filter (is_new c.args.table.now) ps) + cond c.in_ok-look_at.field-0 1 0 =
    new_more c.args.table.now c.loop-place.table ps l e none ∙ ap (λ (b : Bool). length (filter (is_new c.args.table.now) ps) + cond b 1 0) (sym (c.in_ok-look_at.ensures.told nowhere)) in
    let count : (b : Bool) → c.in_ok-look_at.field-0 ≡ b → c.if-branch.scanned ≡ c.loop-place.scanned + cond b 1 0 → c.if-branch.scanned ≡ length (filter (is_new c.args.table.now) (pages_in (take (n + 1) es))) =
    λ b is told. omega (arith, told, news, c.loop-place.invariant.count, ap as_number is, ap (λ (list : List Page). length (filter (is_new c.args.table.now) list)) more) in
    let looked = subst (λ (list : List Page). Looked c.args.table.now list c.look_at.new.table) (sym more)
    (subst (λ (t : Table). Looked c.args.table.now (ps ++ page_at e) t) (sym (c.in_ok-look_at.ensures.ok nowhere)) (looked_more c.args.table.now c.loop-place.table ps l e none)) in
    elim c.if-branch.branch [
      | then-branch w ↦ record { looked = looked; count = count true w.if-branch.true w.scanned-is; few = omega (arith, c.loop-place.invariant.few, w.scanned-is) }
      | else-branch w ↦ record { looked = looked; count = count false w.if-branch.false (omega (arith, w.scanned-is)); few = omega (arith, c.loop-place.invariant.few, w.scanned-is) }
    ]

pub returns-clause-count : goal.returns-clause-count
returns-clause-count c =
    let belief = believed c.args.keeper.now in
    let all : take c.loop-place.place (entries belief) ≡ entries belief = take_all c.loop-place.place (entries belief) (omega (arith, c.loop-place-test.false, c.entries-place-end.ensures, len-entries belief)) in
    c.loop-place.invariant.count ∙ ap (λ (es : List (List ℕ × State)). length (filter (is_new c.args.table.now) (pages_in es))) all

pub returns-clause-ok : goal.returns-clause-ok
returns-clause-ok c =
    let belief = believed c.args.keeper.now in
    let all : take c.loop-place.place (entries belief) ≡ entries belief = take_all c.loop-place.place (entries belief) (omega (arith, c.loop-place-test.false, c.entries-place-end.ensures, len-entries belief)) in
    ap bytes_of c.finish.ensures
    ∙ looked_all c.args.table.now c.loop-place.table belief (subst (λ (es : List (List ℕ × State)). Looked c.args.table.now (pages_in es) c.loop-place.table) all c.loop-place.invariant.looked)
