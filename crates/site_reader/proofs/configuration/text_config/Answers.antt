use Rattle.site_reader.proofs.ConfigurationLaws.{has_size}
use Rattle.site_reader.proofs.configuration.text_config.Goals as goal

pub returns-in-Ok-clause-size : goal.returns-in-Ok-clause-size
returns-in-Ok-clause-size c = has_size c.in-Ok.ensures.read.0 c.in-Ok.config c.in-Ok.ensures.read.3
