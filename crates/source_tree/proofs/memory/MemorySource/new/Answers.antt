use Rattle.std.proofs.Common.{◌≡◌, ◌∙◌, ap, List, Vec, Global, ℕ, subst, sym}
use Rattle.std.specs.FinMap.{from_entries}
use Rattle.site_base.specs.Clash.{ClashFree, HasNoClash}
use Rattle.site_base.specs.PathMap.{as_map}
use Rattle.site_base.specs.Places.{AllDiffer, Files, paths_of}
use Rattle.site_base.specs.declared.path_map.PathMap.{PathMap}
use Rattle.source_tree.specs.Memory.{SourceState, plain_files}
use Rattle.source_tree.specs.Put.{plain}
use Rattle.source_tree.proofs.Fitted.{made_of, VecFile}
use Rattle.source_tree.proofs.Plain.{no_clash-from_entries, paths_of-plain, plain_files-from_entries}
use Rattle.source_tree.proofs.memory.MemorySource.new.Goals as goal

abbrev Made : List VecFile → PathMap (Vec ℕ Global) → Type 0
Made files made = AllDiffer (paths_of files) × (as_map made ≡ from_entries files)

pub invariant_of-result : goal.invariant_of-result
invariant_of-result c =
    let files = c.args.files.items in
    let made = made_of (AllDiffer (paths_of files) → ⊥) (Made files) c.from_entries.result c.unwrap.result c.unwrap.ensures c.from_entries.ensures in
    subst (λ (m : Files). HasNoClash m) (sym (ap plain_files made.1 ∙ plain_files-from_entries files))
    (no_clash-from_entries (plain files) (subst ClashFree (sym (paths_of-plain files)) c.requires.clash_free))

pub returns : goal.returns
returns c =
    let files = c.args.files.items in
    let made = made_of (AllDiffer (paths_of files) → ⊥) (Made files) c.from_entries.result c.unwrap.result c.unwrap.ensures c.from_entries.ensures in
    let state : Files → SourceState = λ m. record { files = m; fail = c.args.fail.items; calls = 0; failures = 0 } in
    ap state (ap plain_files made.1 ∙ plain_files-from_entries files)
