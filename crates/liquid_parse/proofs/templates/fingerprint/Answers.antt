use Rattle.site_base.specs.Fingerprints.{fingerprint}
use Rattle.liquid_parse.proofs.templates.fingerprint.Goals as goal

pub returns : goal.returns
unfolding fingerprint
returns c = cc
