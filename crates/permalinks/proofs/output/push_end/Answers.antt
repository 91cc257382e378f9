use Rattle.std.proofs.Common.{◌≡◌, ◌∙◌, sym, true, false, nat_eq, codes, rules}
use Rattle.std.specs.List.{ends_with}
use Rattle.std.specs.String.{string_bytes}
use Rattle.std.proofs.lemmas.List.{append-nil}
use Rattle.std.proofs.lemmas.Str.Pattern.{ends_text}
use Rattle.permalinks.proofs.output.push_end.Goals as goal

pub returns-then-ends_with-2 : goal.returns-then-ends_with-2
returns-then-ends_with-2 c =
    let folder : ends_with nat_eq c.args.url.now (codes "/") ≡ false = sym (ends_text c.ends_with.result (codes "/") c.args.url.now c.ends_with.ensures.cases) ∙ c.if-ends_with.false in
    let ends : ends_with nat_eq c.args.url.now c.args.output_ext.now ≡ true = sym (ends_text c.ends_with-2.result c.args.output_ext.now c.args.url.now c.ends_with-2.ensures.cases) ∙ c.if-ends_with-2.true in
    rw (folder, ends) (sym (append-nil (string_bytes c.args.text.now)))

pub returns : goal.returns
returns c =
    let folder : ends_with nat_eq c.args.url.now (codes "/") ≡ false = sym (ends_text c.ends_with.result (codes "/") c.args.url.now c.ends_with.ensures.cases) ∙ c.if-ends_with.false in
    let ends : ends_with nat_eq c.args.url.now c.args.output_ext.now ≡ false = sym (ends_text c.ends_with-2.result c.args.output_ext.now c.args.url.now c.ends_with-2.ensures.cases) ∙ c.if-ends_with-2.false in
    rw (folder, ends) (search rules)
