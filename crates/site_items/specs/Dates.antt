-- The dates of documents, after Jekyll 4's manual, "Posts".
use Rattle.std.specs.Prelude.{ℕ, ℤ, List, codes, Option, Some, None, Ok, Err, unwrap_or}
use Rattle.std.specs.Option.{option_map}
use Rattle.site_base.specs.Plain.{Plain, nil, text}
use Rattle.site_base.specs.declared.faults.FaultKind.TheVariants as fault
use Rattle.site_dates.specs.Format.{format_moment}
use Rattle.site_dates.specs.Moment.{read_moment}
use Rattle.site_files.specs.PostNames.{dated_name}
use Rattle.site_items.specs.Outcomes.{Outcome}

abbrev pub if_date : Option ℤ → Outcome (Option ℤ)
if_date (Some moment) = Ok (Some moment)
if_date None = Err (0, fault.BadDate)

-- the moment that a variable `date` names at the site's offset; nothing names none, and another value than a date is a fault
abbrev pub given_date : ℤ → Plain → Outcome (Option ℤ)
given_date offset nil = Ok None
given_date offset (text s) = if_date (read_moment s offset)
given_date offset v = Err (0, fault.BadDate)

-- the moment that the name of a file begins with
abbrev pub name_date : ℤ → List ℕ → Option ℤ
name_date offset stem = option_map (λ parts. parts.0) (dated_name offset stem)

-- the title in the name of a file: what stands behind its date, or all of it
abbrev pub name_title : ℤ → List ℕ → List ℕ
name_title offset stem = unwrap_or (option_map (λ parts. parts.1) (dated_name offset stem)) stem

-- a moment as the variable `date` has it
abbrev pub date_value : ℤ → Option ℤ → Plain
date_value offset None = nil
date_value offset (Some moment) = text (unwrap_or (format_moment moment offset (codes "%Y-%m-%d %H:%M:%S %z")) (codes ""))
