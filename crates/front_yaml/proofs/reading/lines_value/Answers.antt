use Rattle.std.proofs.Common.{◌≡◌, subst, sym, ap, ◌∙◌, Ok}
use Rattle.site_base.specs.View.{plain}
use Rattle.site_base.specs.declared.faults.YamlKind.TheVariants as kind
use Rattle.front_yaml.specs.declared.faults.YamlError.{YamlError}
use Rattle.front_yaml.specs.declared.faults.YamlError.TheVariants as yaml_error
use Rattle.front_yaml.specs.Given.{FailsLines}
use Rattle.front_yaml.specs.Blocks.{block, below}
use Rattle.front_yaml.specs.Yaml.{lines_value}
use Rattle.front_yaml.proofs.BlockCases.{value_fails, value_whole, value_cut}
use Rattle.front_yaml.proofs.reading.lines_value.Goals as goal

pub returns-in-Err : goal.returns-in-Err
returns-in-Err c =
    let h = subst (λ ls. FailsLines c.in-Err.error (below (block 64) 0 ls)) c.first_lines.ensures c.in-Err.ensures in
    value_fails c.args.lines.now c.going_on-count.result c.in-Err.error c.going_on-count.ensures.value h

pub returns-then-count-lines : goal.returns-then-count-lines
returns-then-count-lines c =
    let h = subst (λ ls. below (block 64) 0 ls ≡ Ok (plain c.in-Ok.value)) c.first_lines.ensures c.in-Ok.ensures in
    let told = c.at.ensures ∙ ap (λ n. yaml_error.Fault (record { line = n; kind = kind.Outside })) c.number.ensures.value in
    subst (λ (x : YamlError). FailsLines x (lines_value c.args.lines.now)) (sym told)
    (value_cut c.args.lines.now c.going_on-count.result c.index-lines-count.result (plain c.in-Ok.value) c.going_on-count.ensures.value c.if-count-lines.true c.index-lines-count.is h)

pub returns : goal.returns
returns c =
    let h = subst (λ ls. below (block 64) 0 ls ≡ Ok (plain c.in-Ok.value)) c.first_lines.ensures c.in-Ok.ensures in
    value_whole c.args.lines.now c.going_on-count.result (plain c.in-Ok.value) c.going_on-count.ensures.value c.if-count-lines.false h
