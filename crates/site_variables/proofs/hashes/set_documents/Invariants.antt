use Rattle.std.proofs.Common.{◌≡◌, drop}
use Rattle.site_items.specs.Defaults.{set_all}
use Rattle.site_variables.specs.Hashes.{documents_from}
use Rattle.site_variables.proofs.hashes.set_documents.Given as goal

abbrev pub invariant-loop-place : goal.invariant-loop-place
invariant-loop-place l = set_all (documents_from l.site.items l.place (drop l.place l.collections)) l.made ≡ set_all (documents_from l.site.items 0 l.collections) l.initial.made
