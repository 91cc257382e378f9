-- Which keys are the same.
use Rattle.std.specs.Prelude.{ℕ, Bool, true, false, ◌&&◌, eqb, List, [], ◌∷◌, ◌++◌}
use Rattle.std.specs.Hash as fed
use Rattle.std.specs.Str.{bytes_eq}
use Rattle.site_base.specs.Code.{code}
use Rattle.site_base.specs.Plain.{text, list, Items, no_items, item}
use Rattle.site_base.specs.declared.item_name.ItemName.{ItemName}
use Rattle.read_record.specs.declared.key.Key.{Key}
use Rattle.read_record.specs.declared.key.Key.TheVariants.{Source, Content, Output, Var, Paginator, SiteVar, Data, Layout, Include, File, Link, Post, Moment}

-- what a key is made of: its kind, a path with its part, a text, a list
pub record Parts : Type 0 where
  pub kind : ℕ
  pub path : List ℕ
  pub part : ℕ
  pub words : List ℕ
  pub keys : Items

abbrev pub of_item : ℕ → ItemName → List ℕ → Parts
of_item kind name words = record { kind = kind; path = name.path; part = name.part; words = words; keys = no_items }

abbrev pub of_text : ℕ → List ℕ → Parts
of_text kind words = record { kind = kind; path = []; part = 0; words = words; keys = no_items }

abbrev pub of_list : ℕ → Items → Parts
of_list kind keys = record { kind = kind; path = []; part = 0; words = []; keys = keys }

abbrev pub parts_of : Key → Parts
parts_of (Source name) = of_item 0 name []
parts_of (Content name) = of_item 1 name []
parts_of (Output name) = of_item 2 name []
parts_of (Var name x) = of_item 3 name x
parts_of (Paginator name) = of_item 4 name []
parts_of (SiteVar x) = of_text 5 x
parts_of (Data keys) = of_list 6 keys
parts_of (Layout x) = of_text 7 x
parts_of (Include x) = of_text 8 x
parts_of (File path) = of_text 9 path
parts_of (Link path) = of_text 10 path
parts_of (Post x) = of_text 11 x
parts_of Moment = of_text 12 []

-- the lists are the same
abbrev pub same_items : Items → Items → Bool
same_items no_items no_items = true
same_items no_items (item w js) = false
same_items (item v is) no_items = false
same_items (item v is) (item w js) = bytes_eq (code (list (item v is))) (code (list (item w js)))

abbrev pub same_parts : Parts → Parts → Bool
same_parts a b = eqb a.kind b.kind && (bytes_eq a.path b.path && (eqb a.part b.part && (bytes_eq a.words b.words && same_items a.keys b.keys)))

-- the keys are the same
abbrev pub same_key : Key → Key → Bool
same_key a b = same_parts (parts_of a) (parts_of b)

-- the texts of a list
abbrev pub item_writes : Items → List (List ℕ)
item_writes no_items = []
item_writes (item (text s) is) = s ∷ item_writes is
item_writes (item v is) = item_writes is

-- what of a key is fed to a hasher
abbrev pub key_writes : Key → List (List ℕ)
key_writes k = let p = parts_of k in fed.u8 p.kind ++ (p.path ∷ (fed.u32 p.part ++ (p.words ∷ item_writes p.keys)))
