use Rattle.std.proofs.Common.{◌≡◌}
use Rattle.site_base.specs.Plain.{no_pairs}
use Rattle.data_files.specs.Readings.{seen}
use Rattle.data_files.proofs.MemberLaws.{behind}
use Rattle.data_files.proofs.json_texts.hash_of.Given as goal

abbrev pub invariant-loop-key : goal.invariant-loop-key
invariant-loop-key l = behind l.pairs (seen l.key-iterator) ≡ behind no_pairs (seen l.fn.members.entries)
