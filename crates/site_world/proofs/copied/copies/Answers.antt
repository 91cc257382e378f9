use Rattle.std.proofs.Common.{◌∙◌, ℕ, List, Some, None, cond, ap, sym}
use Rattle.std.specs.Option.{option_or}
use Rattle.std.specs.Str.{bytes_eq}
use Rattle.site_items.specs.declared.static_file.StaticFile.{StaticFile}
use Rattle.site_world.proofs.Loops.{find_more}
use Rattle.site_world.specs.Named.{named}
use Rattle.site_world.proofs.copied.copies.Goals as goal

pub loop-file-preserved : goal.loop-file-preserved
loop-file-preserved c = λ path.
    find_more (λ (path : List ℕ) (copy : StaticFile). bytes_eq copy.path path) c.args.files.now c.loop-file.file-index c.file-item.result c.loop-file-test.true (sym c.file-item.is)
    path (named c.loop-file.made path) (named c.add.new.self path)
    (c.in_ok-add.ensures path ∙ ap (λ (name : List ℕ). option_or (named c.loop-file.made path) (cond (bytes_eq name path) (Some c.file-item.result) None)) c.text.ensures.text)
    (c.loop-file.invariant path)
