use Rattle.std.proofs.Common.{◌≡◌, ◌≤◌, ◌+◌, ◌-◌, ◌∙◌, List, ℕ, take, drop, sym, ap, arith}
use Rattle.std.proofs.lemmas.List.{drop-take, drop-drop}
use Rattle.site_script.proofs.ahead.Ahead.give.Goals as goal

-- what is between two places, past its first bytes
rest_between : (block : List ℕ) (start end count : ℕ) → count ≤ end - start → take (end - (start + count)) (drop (start + count) block) ≡ drop count (take (end - start) (drop start block))
rest_between block start end count within =
    let parts : end - start ≡ count + (end - (start + count)) = omega arith in
    sym (ap (λ n. drop count (take n (drop start block))) parts
    ∙ drop-take count (end - (start + count)) (drop start block)
    ∙ ap (λ xs. take (end - (start + count)) xs) (drop-drop count start block))

pub returns-clause-left : goal.returns-clause-left
returns-clause-left c =
    rest_between c.self.inside.block c.self.inside.start c.self.inside.end c.min-count.result (omega (arith, c.min-count.ensures))
    ∙ ap (λ xs. drop c.min-count.result xs) c.self.view_is
