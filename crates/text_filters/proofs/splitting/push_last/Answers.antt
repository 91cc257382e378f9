use Rattle.std.proofs.Common.{◌≡◌, ◌<◌, List, ℕ, [], length, sym, subst, arith}
use Rattle.std.specs.Result.{OnOk}
use Rattle.std.proofs.lemmas.Bool.Decides.{nat_tests}
use Rattle.site_base.specs.Plain.{onto}
use Rattle.text_filters.specs.Splitting.{text_items}
use Rattle.text_filters.proofs.SplitLaws.{kept_behind, nothing_last}
use Rattle.text_filters.proofs.splitting.push_last.Goals as goal

pub returns-then-is_empty : goal.returns-then-is_empty
returns-then-is_empty c =
    let none : length c.args.part.now ≡ 0 = grind (arith, nat_tests) in
    nothing_last c.args.list.now c.args.waiting c.args.part.now none

pub returns : goal.returns
returns c =
    let some : 0 < length c.args.part.now = grind (arith, nat_tests) in
    subst (λ (ps : List (List ℕ)). OnOk c.push_behind_empty.result (c.push_behind_empty.new.list ≡ onto c.args.list.now (text_items ps))) (sym (kept_behind c.args.waiting c.args.part.now [] some)) c.push_behind_empty.ensures
