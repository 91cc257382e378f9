-- The feed of a site's newest posts, as a plain text. After RFC 4287 (Atom), RFC 3339 (dates), and XML 1.0, section 2.4 (escapes).
use Rattle.std.specs.Prelude.{ℕ, ◌==◌, ℤ, pos, false, List, [], ◌∷◌, ◌++◌, codes, flat_map, if◌then◌else◌, Option, Some, None}
use Rattle.site_base.specs.Plain.{Plain, bool}
use Rattle.site_base.specs.Values.{value_text}
use Rattle.site_base.specs.declared.item_name.ItemName.{ItemName}
use Rattle.site_dates.specs.Format.{full_date, full_time, offset_text}
use Rattle.site_dates.specs.Moment.{read_moment}
use Rattle.site_dates.specs.Shown.{Shown, local_time}

-- a post: its variables `url`, `title` and `date`, and its content
pub record Post : Type 0 where
  pub name : ItemName
  pub url : List ℕ
  pub title : Plain
  pub date : List ℕ
  pub content : List ℕ

-- ---- Fields

abbrev pub escaped_byte : ℕ → List ℕ
escaped_byte c =
    if c == 38 then codes "&amp;"
    else if c == 60 then codes "&lt;"
    else if c == 62 then codes "&gt;"
    else if c == 34 then codes "&quot;"
    else c ∷ []

abbrev pub escaped : List ℕ → List ℕ
escaped t = flat_map escaped_byte t

-- what is nothing, or false, is no title
abbrev pub title_text : Plain → List ℕ
title_text (bool false) = []
title_text v = value_text v

-- `2020-01-31T12:00:00+01:00`
abbrev pub shown_time : Shown → List ℕ
shown_time t = full_date t.date ++ (codes "T" ++ (full_time t ++ offset_text (codes ":") t.offset))

abbrev pub moment_text : ℤ → ℤ → List ℕ
moment_text offset moment = shown_time (local_time moment offset)

-- what reads as no date stays
abbrev pub date_or : ℤ → List ℕ → Option ℤ → List ℕ
date_or offset t None = t
date_or offset t (Some moment) = moment_text offset moment

abbrev pub date_text : ℤ → List ℕ → List ℕ
date_text offset t = date_or offset t (read_moment t offset)

-- the date of the newest post; without posts the beginning of 1970
abbrev pub last_update : ℤ → List Post → List ℕ
last_update offset [] = moment_text offset (pos 0)
last_update offset (p ∷ ps) = date_text offset p.date

-- ---- The text

-- by the site's offset, and what stands in front of each address
module _ (offset : ℤ) (base : List ℕ) where
  abbrev pub entry : Post → List ℕ
  entry p =
      codes "<entry><title>" ++ (escaped (value_text p.title)
      ++ (codes "</title><id>" ++ (escaped (base ++ p.url)
      ++ (codes "</id><link href=\"" ++ (escaped (base ++ p.url)
      ++ (codes "\"/><updated>" ++ (date_text offset p.date
      ++ (codes "</updated><content type=\"html\">" ++ (escaped p.content
      ++ codes "</content></entry>\n")))))))))

  abbrev pub head : Plain → List Post → List ℕ
  head title posts =
      codes "<?xml version=\"1.0\" encoding=\"utf-8\"?>\n<feed xmlns=\"http://www.w3.org/2005/Atom\">\n"
      ++ (codes "<title>" ++ (escaped (title_text title)
      ++ (codes "</title>\n<id>" ++ (escaped (base ++ codes "/feed.xml")
      ++ (codes "</id>\n<updated>" ++ (last_update offset posts
      ++ codes "</updated>\n"))))))

  -- of the site's title and its ten newest posts, the newest first
  abbrev pub feed : Plain → List Post → List ℕ
  feed title posts = head title posts ++ (flat_map entry posts ++ codes "</feed>\n")
