use Rattle.std.proofs.Common.{◌≡◌, ◌++◌, drop, map}
use Rattle.site_reader.specs.Placing.{seen}
use Rattle.site_reader.specs.Sites.{copies}
use Rattle.site_reader.proofs.copies.copies.Given as goal

abbrev pub invariant-loop-file : goal.invariant-loop-file
invariant-loop-file l = l.copies.items ++ copies l.config (map seen (drop l.file-index l.files)) ≡ copies l.config (map seen l.files)
