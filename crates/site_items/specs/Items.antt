-- What a file is as an item of the site: its variables, address and body, or its first fault; nothing where it is left out. After Jekyll 4's manual, "Variables".
use Rattle.std.specs.Prelude.{ℕ, ◌-◌, nat_lt, nat_eq, ℤ, Bool, true, false, not, ◌&&◌, ◌||◌, List, [], ◌++◌, length, take, codes, fold, Option, Some, None, is_some, Ok, Err, int_lt, if◌then◌else◌}
use Rattle.std.specs.List.{after_last, ends_with}
use Rattle.std.specs.Option.{option_or}
use Rattle.site_base.specs.Chains.{◌>>=◌}
use Rattle.site_base.specs.Path.{segments}
use Rattle.site_base.specs.Plain.{Plain, nil, bool, text, list, Pairs, no_pairs, set, key_list}
use Rattle.site_base.specs.Values.{value_text}
use Rattle.site_base.specs.declared.faults.FaultKind.TheVariants as fault
use Rattle.permalinks.specs.Url.{url_by}
use Rattle.site_config.specs.declared.config.Config.{Config}
use Rattle.site_config.specs.declared.scope.Scope.{Scope}
use Rattle.site_files.specs.Names.{extension, file_name, is_slash, stem}
use Rattle.site_items.specs.Addresses.{above_posts, collection_of, dest_of, found_url, is_page, is_post, name_of, stands_for, template}
use Rattle.site_items.specs.Dates.{date_value, given_date, name_date, name_title}
use Rattle.site_items.specs.Defaults.{variable, variables}
use Rattle.site_items.specs.Extensions.{output_ext}
use Rattle.site_items.specs.Labels.{add_name, names_of_many, names_of_one, text_items}
use Rattle.site_items.specs.Matter.{matter}
use Rattle.site_items.specs.Outcomes.{Outcome}
use Rattle.site_items.specs.Titles.{title}
use Rattle.site_items.specs.declared.item.Item.{Item}
use Rattle.site_items.specs.declared.kind.Kind.{Kind}
use Rattle.site_items.specs.declared.kind.Kind.TheVariants as kind
use Rattle.site_items.specs.declared.matter.Matter.{Matter}
use Rattle.site_items.specs.declared.timeless.Timeless.{Timeless}
use Rattle.site_items.specs.declared.timeless.Timeless.TheVariants.{Unpublished, Undated, Made, Faulty}

-- ---- whether it is built

abbrev pub is_draft : Kind → Bool
is_draft kind.Draft = true
is_draft k = false

-- the variable `published`
abbrev pub is_published : Plain → Outcome Bool
is_published nil = Ok true
is_published (bool b) = Ok b
is_published v = Err (0, fault.Config)

-- the moment of a document: that of its variable, else that in its name
abbrev pub document_date : ℤ → Kind → List ℕ → Option ℤ → Option ℤ
document_date offset k name given = if is_page k then None else option_or given (name_date offset name)

-- a draft without a moment of its own has the present one
abbrev pub has_present : Kind → Option ℤ → Bool
has_present k moment = is_draft k && not (is_some moment)

-- a document of a later moment, unless the future is built
abbrev pub is_left_out : ℤ → Bool → Option ℤ → Bool
is_left_out now future None = false
is_left_out now future (Some moment) = int_lt now moment && not future

-- ---- names

-- the title in the name of a document's file; of a draft all of it
abbrev pub title_part : ℤ → Kind → List ℕ → List ℕ
title_part offset k name = if is_draft k then name else name_title offset name

abbrev pub is_nil : Plain → Bool
is_nil nil = true
is_nil v = false

-- a variable where it is there, and else this value
abbrev pub set_missing : List ℕ → Plain → Pairs → Pairs
set_missing name v vars = if is_nil (variable name vars) then set name v vars else vars

-- the folders above `_posts`, of a post below one
abbrev pub folders_above : Kind → List ℕ → List (List ℕ)
folders_above kind.Post path = above_posts (segments path)
folders_above k path = []

-- the categories of a post: the folders above `_posts`, and those that it names
abbrev pub categories : Kind → List ℕ → Pairs → Pairs
categories k path vars =
    let above = fold add_name no_pairs (folders_above k path) in
    fold add_name (fold add_name above (names_of_one (variable (codes "category") vars))) (names_of_many (variable (codes "categories") vars))

abbrev pub tags : Pairs → Pairs
tags vars = fold add_name (fold add_name no_pairs (names_of_one (variable (codes "tag") vars))) (names_of_many (variable (codes "tags") vars))

-- names as a value
abbrev pub names_value : Pairs → Plain
names_value names = list (text_items (key_list names))

-- ---- variables

-- what is known of an item before its address: documents have a date, a slug and a title, posts have categories
abbrev pub set_if : Bool → List ℕ → Plain → Pairs → Pairs
set_if true name v vars = set name v vars
set_if false name v vars = vars

-- the slug and the title of a document, which its own variables may give
abbrev pub named : List ℕ → Pairs → Pairs
named part vars = set_missing (codes "title") (text (title part)) (set_missing (codes "slug") (text part) vars)

abbrev pub slug_of : Pairs → List ℕ
slug_of vars = value_text (variable (codes "slug") vars)

-- a URL up to its last `/`, with it
abbrev pub folder_of : List ℕ → List ℕ
folder_of address = take (length address - length (after_last is_slash address)) address

-- without one `/` at its end, unless that is all
abbrev pub has_end : List ℕ → Bool
has_end address = nat_lt 1 (length address) && ends_with nat_eq address (codes "/")

abbrev pub without_end : List ℕ → List ℕ
without_end address = if has_end address then take (length address - 1) address else address

abbrev pub id_of : List ℕ → List ℕ → List ℕ
id_of address slug_text = folder_of (without_end address) ++ slug_text

-- the variables that all items have
abbrev pub placed : List ℕ → List ℕ → Pairs → Pairs
placed path address vars =
    set (codes "ext") (text (extension (file_name path))) (set (codes "url") (text address)
    (set (codes "relative_path") (text path) (set (codes "path") (text path) vars)))

-- what tells the address of a page, over what tells another
abbrev pub addressed : List ℕ → Pairs → Pairs
addressed address vars = set (codes "dir") (text (folder_of address)) (set (codes "url") (text address) vars)

abbrev pub page_variables : List ℕ → List ℕ → Pairs → Pairs
page_variables path address vars = set (codes "dir") (text (folder_of address)) (set (codes "name") (text (file_name path)) vars)

-- those of documents; `own` are the variables in which categories and tags are looked up
abbrev pub document_variables : Config → Kind → List ℕ → List ℕ → Option ℤ → Pairs → Pairs
document_variables config k path address moment vars =
    set (codes "id") (text (id_of address (slug_of vars))) (set (codes "tags") (names_value (tags vars))
    (set_if (is_post k) (codes "categories") (names_value (categories k path vars)) (set (codes "date") (date_value config.timezone moment)
    (set_if (is_draft k) (codes "draft") (bool true) (set (codes "collection") (text (name_of (collection_of config k))) vars)))))

abbrev pub kind_variables : Config → Kind → List ℕ → List ℕ → Option ℤ → Pairs → Pairs
kind_variables config k path address moment vars =
    if is_page k then page_variables path address vars else document_variables config k path address moment vars

abbrev pub kind_named : ℤ → Kind → List ℕ → Pairs → Pairs
kind_named offset k name vars = if is_page k then vars else named (title_part offset k name) vars

-- ---- items

abbrev pub item_at : Config → Kind → List ℕ → Option ℤ → Pairs → List ℕ → List ℕ → List ℕ → Outcome Item
item_at config k path moment vars text_body ext address = dest_of config k address ext >>= λ dest. Ok (record {
  moment = moment;
  url = address;
  dest = dest;
  vars = kind_variables config k path address moment (placed path address vars);
  body = text_body;
})

-- an item that is built, whose variables with slug and title these are, and whose output has this extension
abbrev pub built_with : Config → Kind → List ℕ → Option ℤ → List ℕ → List ℕ → Pairs → Outcome Item
built_with config k path moment text_body ext vars =
    template config ext (stem (file_name path)) k (variable (codes "permalink") vars)
    >>= λ t. found_url (url_by t (stands_for config k path ext moment (slug_of vars) (key_list (categories k path vars))))
    >>= item_at config k path moment vars text_body ext

abbrev pub built_item : Config → Kind → List ℕ → Option ℤ → Pairs → List ℕ → Outcome Item
built_item config k path moment vars text_body = built_with config k path moment text_body (output_ext config.markdown_ext (extension (file_name path))) vars

abbrev pub named_item : Config → Kind → List ℕ → Option ℤ → Pairs → List ℕ → Outcome Item
named_item config k path moment vars text_body = built_item config k path moment (kind_named config.timezone k (stem (file_name path)) vars) text_body

-- ---- what a file is as an item at every moment

-- an item of this moment, or what is wrong with it
abbrev pub of_moment : Option ℤ → Outcome Item → Timeless
of_moment moment (Ok made) = Made made
of_moment moment (Err f) = Faulty moment (record { line = f.0; kind = f.1 })

abbrev pub timeless_of : Config → Kind → List ℕ → Pairs → List ℕ → Option ℤ → Timeless
timeless_of config k path vars text_body moment =
    if has_present k moment then Undated vars text_body else of_moment moment (named_item config k path moment vars text_body)

-- an item that is published, whose variable `date` names this moment
abbrev pub timeless_dated : Config → Kind → List ℕ → Pairs → List ℕ → Option ℤ → Outcome Timeless
timeless_dated config k path vars text_body given = Ok (timeless_of config k path vars text_body (document_date config.timezone k (stem (file_name path)) given))

abbrev pub timeless_published : Config → Kind → List ℕ → Pairs → List ℕ → Bool → Outcome Timeless
timeless_published config k path vars text_body published =
    if published || config.unpublished then given_date config.timezone (variable (codes "date") vars) >>= timeless_dated config k path vars text_body
    else Ok Unpublished

-- an item whose variables these are
abbrev pub timeless_with : Config → Kind → List ℕ → List ℕ → Pairs → Outcome Timeless
timeless_with config k path text_body vars = is_published (variable (codes "published") vars) >>= timeless_published config k path vars text_body

abbrev pub matter_timeless : Config → List Scope → Kind → List ℕ → Matter → Outcome Timeless
matter_timeless config ordered k path m = timeless_with config k path m.body (variables config ordered k path m.vars)

abbrev pub timeless : Config → List Scope → Kind → List ℕ → List ℕ → Outcome Timeless
timeless config ordered k path bytes = matter bytes >>= matter_timeless config ordered k path

-- ---- what it is at one moment

abbrev pub some_item : Outcome Item → Outcome (Option Item)
some_item found = found >>= λ made. Ok (Some made)

-- before its day a document is left out, whatever is wrong with its address
abbrev pub unless_later : ℤ → Bool → Option ℤ → Outcome Item → Outcome (Option Item)
unless_later now future moment found = if is_left_out now future moment then Ok None else some_item found

abbrev pub at : ℤ → Bool → Config → Kind → List ℕ → Timeless → Outcome (Option Item)
at now future config k path Unpublished = Ok None
at now future config k path (Undated vars text_body) = some_item (named_item config k path (Some now) vars text_body)
at now future config k path (Made made) = unless_later now future made.moment (Ok made)
at now future config k path (Faulty moment f) = unless_later now future moment (Err (f.line, f.kind))

-- the item that a file is
abbrev pub item : Config → List Scope → ℤ → Bool → Kind → List ℕ → List ℕ → Outcome (Option Item)
item config ordered now future k path bytes = timeless config ordered k path bytes >>= at now future config k path
