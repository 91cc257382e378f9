use Rattle.site_base.specs.Fingerprints.{fingerprint}
use Rattle.site_base.proofs.value.index.fingerprint.Goals as goal

pub returns : goal.returns
unfolding fingerprint
returns c = cc
