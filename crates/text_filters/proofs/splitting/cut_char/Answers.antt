use Rattle.text_filters.proofs.SplitLaws.{char_cut}
use Rattle.text_filters.proofs.splitting.cut_char.Goals as goal

pub returns-clause-characters : goal.returns-clause-characters
returns-clause-characters c =
    char_cut c.args.text.now c.as_str.result.now c.chars-characters.result c.next.new.self c.in_ok-first.first c.next.result c.chars-characters.ensures.rest c.as_str.ensures c.in_ok-first.was c.next.ensures.steps c.utf8.text
