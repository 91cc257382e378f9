use Rattle.std.proofs.Common.{◌∙◌, ap}
use Rattle.tag_archives.specs.Archives.{page_path}
use Rattle.tag_archives.proofs.PathLaws.{refused}
use Rattle.tag_archives.proofs.page.new_page.Goals as goal

pub returns-in-Err : goal.returns-in-Err
returns-in-Err c =
    refused c.args.word c.args.name.now c.in_ok-slug.slug c.as_str-2.result.now c.is_empty.result c.in-Err.error (c.in_ok-slug.ensures ∙ c.in_ok-slugify.ensures) c.is_empty.ensures.1 c.if-is_empty.false
    (c.as_str-2.ensures.value ∙ c.in_ok-text.ensures ∙ ap (page_path c.args.word) c.as_str.ensures) c.in-Err.ensures
