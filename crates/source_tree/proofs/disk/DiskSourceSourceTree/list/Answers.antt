use Rattle.std.proofs.Common.{inl, refl}
use Rattle.source_tree.proofs.disk.DiskSourceSourceTree.list.Goals as goal

pub returns-in-Err-Failed-clause-cause : goal.returns-in-Err-Failed-clause-cause
returns-in-Err-Failed-clause-cause g c = record { later = c.fail.ensures.later; failed = λ _. c.fail.ensures.rose; same = tt; others = inl refl }
