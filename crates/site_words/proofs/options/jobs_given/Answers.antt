use Rattle.std.proofs.Common.{ap, sym, ◌∙◌}
use Rattle.std.specs.Prelude.{option_map}
use Rattle.clap.specs.Words.{found_of}
use Rattle.site_words.specs.Words.{jobs_of}
use Rattle.site_words.proofs.Matching.{number_told}
use Rattle.site_words.proofs.options.jobs_given.Goals as goal

pub returns-in-None : goal.returns-in-None
returns-in-None c = ap jobs_of (sym (ap (option_map (λ s. s.now)) c.in-None.is) ∙ number_told (found_of c.args.matches.now) c.get_str.result c.get_str.ensures)

pub returns-in-Some : goal.returns-in-Some
returns-in-Some c = c.jobs_in.ensures ∙ ap jobs_of (sym (ap (option_map (λ s. s.now)) c.in-Some.is) ∙ number_told (found_of c.args.matches.now) c.get_str.result c.get_str.ensures)
