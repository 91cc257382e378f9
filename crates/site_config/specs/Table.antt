-- The table of the keys that have a meaning, in its order; all but the last four are those of Jekyll 4's manual, "Configuration Options" and "Liquid Options".
use Rattle.std.specs.Prelude.{ℕ, not, List, [], ◌∷◌, codes, Option}
use Rattle.std.specs.List.{find}
use Rattle.std.specs.Option.{option_map}
use Rattle.site_base.specs.Plain.{Plain}
use Rattle.site_config.specs.Forms.{setting, fits}
use Rattle.site_config.specs.declared.form.Form.{Form}
use Rattle.site_config.specs.declared.form.Form.TheVariants as form

unfoldable pub rows : List (List ℕ × Form)
rows =
    (codes "baseurl", form.Text) ∷ (codes "url", form.Text) ∷ (codes "permalink", form.Text) ∷ (codes "markdown_ext", form.Text)
    ∷ (codes "include", form.Texts) ∷ (codes "exclude", form.Texts) ∷ (codes "keep_files", form.Texts)
    ∷ (codes "collections", form.Collections) ∷ (codes "defaults", form.Scopes) ∷ (codes "paginate", form.Count)
    ∷ (codes "paginate_path", form.PagePath) ∷ (codes "excerpt_separator", form.Separator) ∷ (codes "timezone", form.Offset)
    ∷ (codes "future", form.Flag) ∷ (codes "unpublished", form.Flag) ∷ (codes "show_drafts", form.Flag)
    ∷ (codes "liquid", form.Liquid) ∷ (codes "make_archives", form.Archives) ∷ (codes "archive_layout", form.Text)
    ∷ (codes "make_feed", form.Flag) ∷ (codes "make_sitemap", form.Flag) ∷ []

-- the first key of the table whose value has another form than the table asks
abbrev pub wrong_key : Plain → Option (List ℕ)
wrong_key all = option_map (λ row. row.0) (find (λ row. not (fits (setting (codes "collections") all) row.1 (setting row.0 all))) rows)
