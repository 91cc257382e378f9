use Rattle.site_words.proofs.Matching.{flag_told}
use Rattle.clap.specs.Words.{found_of}
use Rattle.site_words.proofs.options.is_given.Goals as goal

pub returns : goal.returns
returns c = flag_told (found_of c.args.matches.now) c.args.id.now c.get_flag.result c.get_flag.ensures.none c.get_flag.ensures.value c.get_flag.ensures.other
