use Rattle.std.proofs.Common.{◌∙◌, ap, is_some, Some, sym}
use Rattle.std.specs.FinMap.{contains_key, get}
use Rattle.std.specs.Option.{option_copied, option_map}
use Rattle.site_base.specs.PathMap.{as_map}
use Rattle.source_tree.specs.Memory.{SourceState}
use Rattle.source_tree.proofs.Plain.{bytes, contains-plain_files, get-plain_files}
use Rattle.source_tree.proofs.Results.{some_lent}
use Rattle.source_tree.proofs.memory.MemorySource.bytes_at.Goals as goal

pub unwrap-requires : goal.unwrap-requires
unwrap-requires c =
    some_lent c.get.result (ap is_some c.get.ensures ∙ sym (contains-plain_files (as_map c.self.inside.files) c.args.path.now)
    ∙ ap (λ (s : SourceState). contains_key s.files c.args.path.now) c.self.view_is ∙ c.requires)

pub returns : goal.returns
returns c =
    sym (ap (λ (s : SourceState). get s.files c.args.path.now) c.self.view_is) ∙ get-plain_files (as_map c.self.inside.files) c.args.path.now
    ∙ ap (option_map bytes) (sym c.get.ensures ∙ ap option_copied c.unwrap.ensures) ∙ ap Some (sym c.deref.ensures.value)
