use Rattle.std.proofs.Common.{arith, ◌≡◌, ◌+◌, ◌-◌, ◌<◌, ◌≤◌, ◌++◌, ◌∷◌, [], true, false, length, drop, Some, Ok, refl, sym, ap, subst, ◌∙◌, IfSome}
use Rattle.std.proofs.lemmas.Result.{err_from_is_err_and}
use Rattle.liquid_grammar.specs.declared.step.Step.TheVariants as step
use Rattle.liquid_grammar.specs.Readings.{many, stop}
use Rattle.liquid_grammar.specs.Expressions.{operand_in, operand_inside, link, range_at, closes_bracket, closes_range, goes_to, start_of, starts_variable, starts_literal, starts_range}
use Rattle.liquid_expr.specs.Ahead.{start_is}
use Rattle.liquid_expr.specs.Tokens.{tokens_of, count}
use Rattle.liquid_expr.specs.Steps.{link_steps, codes_of, added, more_added, AddsMore}
use Rattle.liquid_grammar.specs.Operands.{steps_of}
use Rattle.liquid_expr.proofs.Adding.{goes_on, ends, fails, pass_error, pass_more, counted}
use Rattle.liquid_expr.proofs.OperandLaws.{operand_is, inside_is, bracket_open, bracket_adds, range_no_end, range_wrong_end, range_open, range_adds, literal_adds, no_operand, range_operand, range_operand_none, variable_adds, variable_none}
use Rattle.liquid_expr.proofs.operand.+operand.Goals as goal

pub bracket-returns-then-not-closes_bracket-clause-value : goal.bracket-returns-then-not-closes_bracket-clause-value
bracket-returns-then-not-closes_bracket-clause-value t c =
    let ts = tokens_of c.args.tokens in
    let d = c.args.depth in
    let old = c.args.steps.now.items in
    let n = c.in_ok-len.len in
    let read : added steps_of old (operand_inside d ts) ≡ Some (c.operand.new.steps.items, n) = ap (added steps_of old) (sym (inside_is d ts c.if-depth-eq0.false)) ∙ c.in_ok-len.ensures.value in
    let closes : closes_bracket (drop n ts) ≡ false = ap closes_bracket (sym (c.rest.ensures.seen)) ∙ sym c.closes_bracket.ensures ∙ c.if-not-closes_bracket.true in
    bracket_open (operand_inside d) ts old c.operand.new.steps.items n read closes

pub bracket-returns-clause-value : goal.bracket-returns-clause-value
bracket-returns-clause-value t c =
    let ts = tokens_of c.args.tokens in
    let d = c.args.depth in
    let old = c.args.steps.now.items in
    let n = c.in_ok-len.len in
    let read : added steps_of old (operand_inside d ts) ≡ Some (c.operand.new.steps.items, n) = ap (added steps_of old) (sym (inside_is d ts c.if-depth-eq0.false)) ∙ c.in_ok-len.ensures.value in
    let closes : closes_bracket (drop n ts) ≡ true = ap closes_bracket (sym (c.rest.ensures.seen)) ∙ sym c.closes_bracket.ensures ∙ c.if-not-closes_bracket.false in
    bracket_adds (operand_inside d) ts old c.operand.new.steps.items n read closes ∙ ap (λ l. Some (l, n + 1)) (sym c.in_ok-push.ensures.items)

pub operand-returns-in_err-links-in-Variable-clause-value : goal.operand-returns-in_err-links-in-Variable-clause-value
operand-returns-in_err-links-in-Variable-clause-value t c =
    let ts = tokens_of c.args.tokens in
    let d = c.args.depth in
    let name = c.in-Variable.name.now in
    let e = err_from_is_err_and c.from_residual-in_err-links-in-Variable.result c.from_residual-in_err-links-in-Variable.ensures.1 in
    let starts : starts_variable name ≡ start_of ts = ap start_is (sym c.in-Variable.is) ∙ c.in_ok-name.ensures in
    let rest : tokens_of c.rest.result ≡ drop 1 ts = c.rest.ensures.seen in
    rw (e.1, e.2) (pass_error (codes_of link_steps) steps_of c.push.new.self.items c.path.new.steps.items c.args.steps.now.items c.path.new.steps.items (many (link (operand_inside d)) (tokens_of c.rest.result)) (operand_in d ts) c.in_err-links-in-Variable.field-0.0 c.in_err-links-in-Variable.ensures.value
    (λ none. operand_is d ts ∙ variable_none (operand_inside d) ts name starts (ap (many (link (operand_inside d))) (sym rest) ∙ none)))

pub operand-returns-in_ok-links-in-Variable-clause-value : goal.operand-returns-in_ok-links-in-Variable-clause-value
operand-returns-in_ok-links-in-Variable-clause-value t c =
    let ts = tokens_of c.args.tokens in
    let d = c.args.depth in
    let old = c.args.steps.now.items in
    let name = c.in-Variable.name.now in
    let n = c.in_ok-links-in-Variable.links in
    let starts : starts_variable name ≡ start_of ts = ap start_is (sym c.in-Variable.is) ∙ c.in_ok-name.ensures in
    let rest : tokens_of c.rest.result ≡ drop 1 ts = c.rest.ensures.seen in
    let items : c.push.new.self.items ≡ old ++ step.Variable name ∷ [] = c.in_ok-push-in-Variable.ensures.items ∙ ap (λ x. old ++ step.Variable x ∷ []) c.in_ok-copy-in-Variable.ensures in
    let links : added (codes_of link_steps) (old ++ step.Variable name ∷ []) (many (link (operand_inside d)) (drop 1 ts)) ≡ Some (c.path.new.steps.items, n) =
    ap (λ l. added (codes_of link_steps) l (many (link (operand_inside d)) (drop 1 ts))) (sym items) ∙ ap (λ x. added (codes_of link_steps) c.push.new.self.items (many (link (operand_inside d)) x)) (sym rest) ∙ c.in_ok-links-in-Variable.ensures.value in
    ap (added steps_of old) (operand_is d ts) ∙ variable_adds (operand_inside d) ts old c.path.new.steps.items name n starts links

pub operand-returns-in_err-len-in-Range-clause-value : goal.operand-returns-in_err-len-in-Range-clause-value
operand-returns-in_err-len-in-Range-clause-value t c =
    let ts = tokens_of c.args.tokens in
    let d = c.args.depth in
    let e = err_from_is_err_and c.from_residual-in_err-len-in-Range.result c.from_residual-in_err-len-in-Range.ensures.1 in
    let starts : starts_range ≡ start_of ts = ap start_is (sym c.in-Range.is) ∙ c.in_ok-name.ensures in
    let rest : tokens_of c.rest-in-Range.result ≡ drop 1 ts = c.rest-in-Range.ensures.seen in
    rw (e.1, e.2) (pass_error steps_of steps_of c.args.steps.now.items c.range.new.steps.items c.args.steps.now.items c.range.new.steps.items (range_at (operand_inside d) (tokens_of c.rest-in-Range.result)) (operand_in d ts) c.in_err-len-in-Range.field-0.0 c.in_err-len-in-Range.ensures.value
    (λ none. operand_is d ts ∙ range_operand_none (operand_inside d) ts starts (ap (range_at (operand_inside d)) (sym rest) ∙ none)))

pub operand-returns-in_ok-len-in-Range-clause-value : goal.operand-returns-in_ok-len-in-Range-clause-value
operand-returns-in_ok-len-in-Range-clause-value t c =
    let ts = tokens_of c.args.tokens in
    let d = c.args.depth in
    let old = c.args.steps.now.items in
    let starts : starts_range ≡ start_of ts = ap start_is (sym c.in-Range.is) ∙ c.in_ok-name.ensures in
    let rest : tokens_of c.rest-in-Range.result ≡ drop 1 ts = c.rest-in-Range.ensures.seen in
    ap (added steps_of old) (operand_is d ts) ∙ range_operand (operand_inside d) ts old c.range.new.steps.items c.in_ok-len-in-Range.len starts (ap (λ x. added steps_of old (range_at (operand_inside d) x)) (sym rest) ∙ c.in_ok-len-in-Range.ensures.value)

pub operand-returns-in_ok-push-in-Literal-clause-value : goal.operand-returns-in_ok-push-in-Literal-clause-value
operand-returns-in_ok-push-in-Literal-clause-value t c =
    let ts = tokens_of c.args.tokens in
    let d = c.args.depth in
    let old = c.args.steps.now.items in
    let starts : starts_literal c.in-Literal.literal ≡ start_of ts = ap start_is (sym c.in-Literal.is) ∙ c.in_ok-name.ensures in
    ap (added steps_of old) (operand_is d ts) ∙ literal_adds (operand_inside d) ts old c.in-Literal.literal starts ∙ ap (λ l. Some (l, 1)) (sym c.in_ok-push-in-Literal.ensures.items)

pub operand-returns-in-Nothing-clause-value : goal.operand-returns-in-Nothing-clause-value
operand-returns-in-Nothing-clause-value t c =
    let ts = tokens_of c.args.tokens in
    operand_is c.args.depth ts ∙ no_operand (operand_inside c.args.depth) ts (ap start_is (sym c.in-Nothing.is) ∙ c.in_ok-name.ensures)

pub path-returns-in_err-len-clause-value : goal.path-returns-in_err-len-clause-value
path-returns-in_err-len-clause-value t c =
    let ts = tokens_of c.args.tokens in
    let next = link (operand_inside c.args.depth) in
    let used = c.loop-len.used in
    let now = c.loop-len.steps.items in
    let e = err_from_is_err_and c.from_residual.result c.from_residual.ensures.1 in
    let rest : tokens_of c.rest.result ≡ drop used ts = c.rest.ensures.seen in
    rw (e.1, e.2) (pass_more link_steps (codes_of link_steps) now c.next_link.new.steps.items c.args.steps.now.items c.next_link.new.steps.items (next (tokens_of c.rest.result)) (many next ts) c.in_err-len.field-0.0 c.in_err-len.ensures.value
    (λ wrong. fails next link_steps refl ts c.args.steps.now.items now used (ap next (sym rest) ∙ wrong) c.loop-len.invariant.told))

pub path-loop-len-preserved : goal.path-loop-len-preserved
path-loop-len-preserved t c =
    let ts = tokens_of c.args.tokens in
    let next = link (operand_inside c.args.depth) in
    let used = c.loop-len.used in
    let now = c.loop-len.steps.items in
    let new = c.next_link.new.steps.items in
    let n = c.in-Some.len in
    let rest : tokens_of c.rest.result ≡ drop used ts = c.rest.ensures.seen in
    let one : AddsMore link_steps (Ok (Some n)) now new (next (tokens_of c.rest.result)) = subst (λ f. AddsMore link_steps (Ok f) now new (next (tokens_of c.rest.result))) c.in-Some.is c.in_ok-len.ensures.value in
    let found : more_added link_steps now (next (drop used ts)) ≡ Some (new, n) = ap (λ x. more_added link_steps now (next x)) (sym rest) ∙ one in
    let within : (0 < n) × (n ≤ count c.rest.result) = subst (λ f. IfSome f (λ k. (0 < k) × (k ≤ count c.rest.result))) c.in-Some.is c.in_ok-len.ensures.within in
    let rest_len = c.rest.ensures.count in
    let le : n ≤ length (drop used ts) = omega (arith, within.1, ap length rest, counted c.rest.result) in
    record {
      within = omega (arith, within.1, rest_len, c.loop-len.invariant.within);
      told = goes_on next link_steps ts now new used n (added (codes_of link_steps) c.args.steps.now.items (many next ts)) found within.0 le c.loop-len.invariant.told;
    }

pub path-returns-clause-value : goal.path-returns-clause-value
path-returns-clause-value t c =
    let ts = tokens_of c.args.tokens in
    let next = link (operand_inside c.args.depth) in
    let used = c.loop-len.used in
    let now = c.loop-len.steps.items in
    let new = c.next_link.new.steps.items in
    let rest : tokens_of c.rest.result ≡ drop used ts = c.rest.ensures.seen in
    let last : (next (tokens_of c.rest.result) ≡ stop) × (new ≡ now) = subst (λ f. AddsMore link_steps (Ok f) now new (next (tokens_of c.rest.result))) c.in_default.is c.in_ok-len.ensures.value in
    ends next link_steps ts now used (added (codes_of link_steps) c.args.steps.now.items (many next ts)) (ap next (sym rest) ∙ last.0) c.loop-len.invariant.told ∙ ap (λ l. Some (l, used)) (sym last.1)

pub range-returns-then-not-goes_to-clause-value : goal.range-returns-then-not-goes_to-clause-value
range-returns-then-not-goes_to-clause-value t c =
    let ts = tokens_of c.args.tokens in
    let d = c.args.depth in
    let old = c.args.steps.now.items in
    let n = c.in_ok-from.from in
    let from : added steps_of old (operand_inside d ts) ≡ Some (c.operand.new.steps.items, n) = ap (added steps_of old) (sym (inside_is d ts c.if-depth-eq0.false)) ∙ c.in_ok-from.ensures.value in
    let behind : tokens_of c.rest-behind.result ≡ drop n ts = c.rest-behind.ensures.seen in
    range_no_end (operand_inside d) ts old c.operand.new.steps.items n from (ap goes_to (sym behind) ∙ sym c.goes_to.ensures ∙ c.if-not-goes_to.true)

pub range-returns-in_err-to-clause-value : goal.range-returns-in_err-to-clause-value
range-returns-in_err-to-clause-value t c =
    let ts = tokens_of c.args.tokens in
    let d = c.args.depth in
    let old = c.args.steps.now.items in
    let mid = c.operand.new.steps.items in
    let n = c.in_ok-from.from in
    let e = err_from_is_err_and c.from_residual-in_err-to.result c.from_residual-in_err-to.ensures.1 in
    let from : added steps_of old (operand_inside d ts) ≡ Some (mid, n) = ap (added steps_of old) (sym (inside_is d ts c.if-depth-eq0.false)) ∙ c.in_ok-from.ensures.value in
    let behind : tokens_of c.rest-behind.result ≡ drop n ts = c.rest-behind.ensures.seen in
    let past : tokens_of c.rest-behind-2.result ≡ drop 1 (drop n ts) = c.rest-behind-2.ensures.seen ∙ ap (drop 1) behind in
    let goes : goes_to (drop n ts) ≡ true = ap goes_to (sym behind) ∙ sym c.goes_to.ensures ∙ c.if-not-goes_to.false in
    rw (e.1, e.2) (pass_error steps_of steps_of c.push.new.self.items c.operand-2.new.steps.items old c.operand-2.new.steps.items (operand_in (d - 1) (tokens_of c.rest-behind-2.result)) (range_at (operand_inside d) ts) c.in_err-to.field-0.0 c.in_err-to.ensures.value
    (λ none. range_wrong_end (operand_inside d) ts old mid n from goes (sym (inside_is d (drop 1 (drop n ts)) c.if-depth-eq0.false) ∙ ap (operand_in (d - 1)) (sym past) ∙ none)))

pub range-returns-then-not-closes_range-clause-value : goal.range-returns-then-not-closes_range-clause-value
range-returns-then-not-closes_range-clause-value t c =
    let ts = tokens_of c.args.tokens in
    let d = c.args.depth in
    let old = c.args.steps.now.items in
    let mid = c.operand.new.steps.items in
    let new = c.operand-2.new.steps.items in
    let n = c.in_ok-from.from in
    let m = c.in_ok-to.to in
    let from : added steps_of old (operand_inside d ts) ≡ Some (mid, n) = ap (added steps_of old) (sym (inside_is d ts c.if-depth-eq0.false)) ∙ c.in_ok-from.ensures.value in
    let behind : tokens_of c.rest-behind.result ≡ drop n ts = c.rest-behind.ensures.seen in
    let past : tokens_of c.rest-behind-2.result ≡ drop 1 (drop n ts) = c.rest-behind-2.ensures.seen ∙ ap (drop 1) behind in
    let goes : goes_to (drop n ts) ≡ true = ap goes_to (sym behind) ∙ sym c.goes_to.ensures ∙ c.if-not-goes_to.false in
    let to : added steps_of (mid ++ step.FirstEnd ∷ []) (operand_inside d (drop 1 (drop n ts))) ≡ Some (new, m) =
    ap (λ l. added steps_of l (operand_inside d (drop 1 (drop n ts)))) (sym c.in_ok-push.ensures.items) ∙ ap (added steps_of c.push.new.self.items) (sym (inside_is d (drop 1 (drop n ts)) c.if-depth-eq0.false) ∙ ap (operand_in (d - 1)) (sym past)) ∙ c.in_ok-to.ensures.value in
    let last : tokens_of c.rest.result ≡ drop m (drop 1 (drop n ts)) = c.rest.ensures.seen ∙ ap (drop m) past in
    range_open (operand_inside d) ts old mid new n m from goes to (ap closes_range (sym last) ∙ sym c.closes_range.ensures ∙ c.if-not-closes_range.true)

pub range-returns-clause-value : goal.range-returns-clause-value
range-returns-clause-value t c =
    let ts = tokens_of c.args.tokens in
    let d = c.args.depth in
    let old = c.args.steps.now.items in
    let mid = c.operand.new.steps.items in
    let new = c.operand-2.new.steps.items in
    let n = c.in_ok-from.from in
    let m = c.in_ok-to.to in
    let from : added steps_of old (operand_inside d ts) ≡ Some (mid, n) = ap (added steps_of old) (sym (inside_is d ts c.if-depth-eq0.false)) ∙ c.in_ok-from.ensures.value in
    let behind : tokens_of c.rest-behind.result ≡ drop n ts = c.rest-behind.ensures.seen in
    let past : tokens_of c.rest-behind-2.result ≡ drop 1 (drop n ts) = c.rest-behind-2.ensures.seen ∙ ap (drop 1) behind in
    let goes : goes_to (drop n ts) ≡ true = ap goes_to (sym behind) ∙ sym c.goes_to.ensures ∙ c.if-not-goes_to.false in
    let to : added steps_of (mid ++ step.FirstEnd ∷ []) (operand_inside d (drop 1 (drop n ts))) ≡ Some (new, m) =
    ap (λ l. added steps_of l (operand_inside d (drop 1 (drop n ts)))) (sym c.in_ok-push.ensures.items) ∙ ap (added steps_of c.push.new.self.items) (sym (inside_is d (drop 1 (drop n ts)) c.if-depth-eq0.false) ∙ ap (operand_in (d - 1)) (sym past)) ∙ c.in_ok-to.ensures.value in
    let last : tokens_of c.rest.result ≡ drop m (drop 1 (drop n ts)) = c.rest.ensures.seen ∙ ap (drop m) past in
    range_adds (operand_inside d) ts old mid new n m from goes to (ap closes_range (sym last) ∙ sym c.closes_range.ensures ∙ c.if-not-closes_range.false)
    ∙ ap (λ l. Some (l, n + 1 + m + 1)) (sym c.in_ok-push-2.ensures.items)
