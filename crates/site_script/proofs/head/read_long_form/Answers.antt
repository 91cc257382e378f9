use Rattle.std.proofs.Common.{sym, false}
use Rattle.std.specs.Prelude.{codes}
use Rattle.std.proofs.lemmas.Str.Pattern.{starts_text}
use Rattle.site_script.proofs.Forms.{no_form}
use Rattle.site_script.proofs.head.read_long_form.Goals as goal

pub returns : goal.returns
returns c =
    no_form c.args.text.now
    (sym (starts_text false (codes "put ") c.args.text.now c.in_default.ensures.cases))
    (sym (starts_text false (codes "delete ") c.args.text.now c.in_default-strip_prefix.ensures.cases))
    (sym (starts_text false (codes "time ") c.args.text.now c.in_default-strip_prefix-2.ensures.cases))
