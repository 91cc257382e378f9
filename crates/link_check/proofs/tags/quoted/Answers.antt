use Rattle.std.proofs.Common.{◌≡◌, ◌∙◌, ◌<◌, ap, arith, drop, length}
use Rattle.site_text.specs.Classes.{is_in}
use Rattle.site_text.specs.Fronts.{run_len}
use Rattle.link_check.proofs.Cuts.{first_cut, quoted_cut}
use Rattle.link_check.proofs.tags.quoted.Goals as goal

pub range_from-inside-requires : goal.range_from-inside-requires
range_from-inside-requires c = λ lt. first_cut c.args.text.now c.utf8.text c.requires.some c.requires.ascii

pub returns-clause-cut : goal.returns-clause-cut
returns-clause-cut c =
    let len = c.class_len-len.result in
    let text = c.args.text.now in
    let counted : len ≡ run_len (is_in c.args.others) (drop 1 text) = c.class_len-len.ensures.value ∙ ap (run_len (is_in c.args.others)) c.range_from-inside.ensures.value in
    let lt : len < length (drop 1 text) = omega (arith, c.class_len-len.ensures.cut.0, c.if-len-inside.false, ap length c.range_from-inside.ensures.value) in
    quoted_cut c.args.others text len c.utf8.text c.requires counted lt
