use Rattle.std.proofs.Common.{◌≡◌, ◌∙◌, ◌++◌, sym, ap, subst, arith, rules, cond, true, length, vec_len, ◌+◌}
use Rattle.std.specs.Result.{is_ok}
use Rattle.std.specs.FinMap.{from_sorted}
use Rattle.site_base.specs.Places.{path_cmp, PathsRise}
use Rattle.site_base.proofs.Entries.{empty_items, len_mapped}
use Rattle.site_base.proofs.path_map.PathMap.move_to.Goals as goal

pub unwrap-requires : goal.unwrap-requires
unwrap-requires g c =
    let none = empty_items c.args.spare.entries.items c.args.spare.rises c.requires.empty in
    c.append.ensures.succeeds (omega (arith, c.requires.fits, ap length none, len_mapped c.args.self.now.entries.items c.args.self.now.rises))

pub invariant_of-self : goal.invariant_of-self
invariant_of-self g c =
    let none = empty_items c.args.spare.entries.items c.args.spare.rises c.requires.empty in
    let ok : is_ok c.append.result ≡ true = search rules in
    let is = c.append.ensures.items ∙ ap (λ b. cond b (c.args.spare.entries.items ++ c.args.self.now.entries.items) c.args.spare.entries.items) ok ∙ ap (λ es. es ++ c.args.self.now.entries.items) none in
    record { rises = subst (λ es. PathsRise es) (sym is) c.args.self.now.rises }

pub returns-clause-map : goal.returns-clause-map
returns-clause-map g c =
    let none = empty_items c.args.spare.entries.items c.args.spare.rises c.requires.empty in
    let ok : is_ok c.append.result ≡ true = search rules in
    let is = c.append.ensures.items ∙ ap (λ b. cond b (c.args.spare.entries.items ++ c.args.self.now.entries.items) c.args.spare.entries.items) ok ∙ ap (λ es. es ++ c.args.self.now.entries.items) none in
    ap (λ es. from_sorted {R = path_cmp} es) is

pub returns-clause-room : goal.returns-clause-room
returns-clause-room g c =
    let none = empty_items c.args.spare.entries.items c.args.spare.rises c.requires.empty in
    let ok : is_ok c.append.result ≡ true = search rules in
    let len = c.append.ensures.len ∙ ap (λ b. cond b (vec_len c.args.spare.entries + vec_len c.args.self.now.entries) (vec_len c.args.spare.entries)) ok in
    omega (arith, len, c.append.ensures.capacity, ap length none, len_mapped c.args.self.now.entries.items c.args.self.now.rises)
