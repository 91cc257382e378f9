-- The placeholders of templates: their names, and what they stand for.
use Rattle.std.specs.Prelude.{ℕ, List, codes, Option, Some, None, option_and_then, if◌then◌else◌}
use Rattle.std.specs.Str.{bytes_eq}
use Rattle.permalinks.specs.declared.parts.UrlParts.{UrlParts}
use Rattle.permalinks.specs.declared.placeholder.Placeholder.{Placeholder}
use Rattle.permalinks.specs.declared.placeholder.Placeholder.TheVariants.{Year, Month, Day, IMonth, IDay, ShortYear, YDay, Hour, Minute, Second, Title, Slug, Categories, Name, Basename, Path, Collection, OutputExt}

-- the placeholder of a name
abbrev pub named : List ℕ → Option Placeholder
named name =
    if bytes_eq name (codes "year") then Some Year
    else if bytes_eq name (codes "month") then Some Month
    else if bytes_eq name (codes "day") then Some Day
    else if bytes_eq name (codes "i_month") then Some IMonth
    else if bytes_eq name (codes "i_day") then Some IDay
    else if bytes_eq name (codes "short_year") then Some ShortYear
    else if bytes_eq name (codes "y_day") then Some YDay
    else if bytes_eq name (codes "hour") then Some Hour
    else if bytes_eq name (codes "minute") then Some Minute
    else if bytes_eq name (codes "second") then Some Second
    else if bytes_eq name (codes "title") then Some Title
    else if bytes_eq name (codes "slug") then Some Slug
    else if bytes_eq name (codes "categories") then Some Categories
    else if bytes_eq name (codes "name") then Some Name
    else if bytes_eq name (codes "basename") then Some Basename
    else if bytes_eq name (codes "path") then Some Path
    else if bytes_eq name (codes "collection") then Some Collection
    else if bytes_eq name (codes "output_ext") then Some OutputExt
    else None

-- what it stands for, where the item has it
abbrev pub value : UrlParts → Placeholder → Option (List ℕ)
value parts Year = parts.year
value parts Month = parts.month
value parts Day = parts.day
value parts IMonth = parts.i_month
value parts IDay = parts.i_day
value parts ShortYear = parts.short_year
value parts YDay = parts.y_day
value parts Hour = parts.hour
value parts Minute = parts.minute
value parts Second = parts.second
value parts Title = parts.title
value parts Slug = parts.slug
value parts Categories = parts.categories
value parts Name = parts.name
value parts Basename = parts.basename
value parts Path = parts.path
value parts Collection = parts.collection
value parts OutputExt = parts.output_ext

-- what placeholders stand for, where they stand for something
abbrev pub Values : Type 0
Values = Placeholder → Option (List ℕ)

-- what the placeholder of a name stands for
abbrev pub field : Values → List ℕ → Option (List ℕ)
field values name = option_and_then values (named name)
