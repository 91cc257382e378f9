use Rattle.std.proofs.Common.{refl, sym}
use Rattle.front_yaml.proofs.FoldLaws.{escape_taken}
use Rattle.front_yaml.proofs.folding.append_escape.Goals as goal

pub returns-in_ok-append_char-in-Some : goal.returns-in_ok-append_char-in-Some
returns-in_ok-append_char-in-Some c =
    escape_taken c.args.text.now c.args.out.now.items c.append_char.new.out.items c.in-Some.c c.in-Some.len _ (sym c.in-Some.ensures.value) c.in-Some.ensures.within refl c.in_ok-append_char-in-Some.ensures
