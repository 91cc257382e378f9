-- Worked rows: the pages of small sites.
use Rattle.std.proofs.Common.{◌≡◌, ℕ, true, List, [], ◌∷◌, codes, Some, Ok, Err, refl}
use Rattle.std.specs.Prelude.{pos}
use Rattle.std.specs.Fmt.{digits}
use Rattle.site_base.specs.Faults.{fault_at}
use Rattle.site_base.specs.Plain.{Pairs, bool, hash, int, item, list, nil, no_items, no_pairs, pair, site_item, text}
use Rattle.site_base.specs.declared.faults.FaultKind.TheVariants as fault
use Rattle.site_base.specs.declared.value.Value.{Value}
use Rattle.site_base.specs.declared.value.Value.TheVariants as value
use Rattle.site_config.specs.Config.{config}
use Rattle.site_config.specs.declared.config.Config.{Config}
use Rattle.site_reader.specs.Paginating.{index_path, paginated, with_pages}
use Rattle.site_reader.specs.declared.site_item.SiteItem.{SiteItem}

-- ---- the template

usual : index_path (codes "/page:num") ≡ codes "index.html"
usual = refl

bare_path : index_path (codes "p:num") ≡ codes "index.html"
bare_path = refl

in_a_folder : index_path (codes "blog/page:num/") ≡ codes "blog/index.html"
in_a_folder = refl

from_the_root : index_path (codes "/a/b/page:num") ≡ codes "a/b/index.html"
from_the_root = refl

-- ---- a blog with two posts on a page

abbrev blog : Config
blog = config (hash (pair (codes "paginate") (int (pos 2)) no_pairs))

abbrev post : List ℕ → Pairs → SiteItem
post path vars = record {
  name = record { path = path; part = 0 };
  group = 0;
  body = [];
  vars = value.Hash vars;
  url = path;
  dest = Some path;
  paginator = value.Nil;
}

abbrev index : Value → SiteItem
index paginator = record {
  name = record { path = codes "index.html"; part = 0 };
  group = 1;
  body = codes "x";
  vars = value.Hash (pair (codes "url") (text (codes "/")) no_pairs);
  url = codes "/";
  dest = Some (codes "index.html");
  paginator = paginator;
}

abbrev posts : List SiteItem → List SiteItem
posts items = post (codes "a") no_pairs ∷ post (codes "b") no_pairs ∷ post (codes "c") no_pairs ∷ items

abbrev first : Value
first = value.Hash
    (pair (codes "page") (int (pos 1))
    (pair (codes "per_page") (int (pos 2))
    (pair (codes "posts") (list (item (site_item (codes "c") 0) (item (site_item (codes "b") 0) no_items)))
    (pair (codes "total_posts") (int (pos 3))
    (pair (codes "total_pages") (int (pos 2))
    (pair (codes "previous_page") nil
    (pair (codes "previous_page_path") nil
    (pair (codes "next_page") (int (pos 2))
    (pair (codes "next_page_path") (text (codes "/page2")) no_pairs)))))))))

abbrev second : SiteItem
second = record {
  name = record { path = codes "index.html"; part = 2 };
  group = 2;
  body = codes "x";
  vars = value.Hash (pair (codes "url") (text (codes "/page2/")) (pair (codes "dir") (text (codes "/page2/")) no_pairs));
  url = codes "/page2/";
  dest = Some (codes "page2/index.html");
  paginator = value.Hash
      (pair (codes "page") (int (pos 2))
      (pair (codes "per_page") (int (pos 2))
      (pair (codes "posts") (list (item (site_item (codes "a") 0) no_items))
      (pair (codes "total_posts") (int (pos 3))
      (pair (codes "total_pages") (int (pos 2))
      (pair (codes "previous_page") (int (pos 1))
      (pair (codes "previous_page_path") (text (codes "/"))
      (pair (codes "next_page") nil
      (pair (codes "next_page_path") nil no_pairs)))))))));
}

three_posts : paginated blog (posts (index value.Nil ∷ [])) ≡ Ok (posts (index first ∷ second ∷ []))
unfolding digits with_pages
three_posts = refl

no_template : paginated blog (posts []) ≡ Ok (posts [])
no_template = refl

no_posts : paginated blog (index value.Nil ∷ []) ≡ Ok (index value.Nil ∷ [])
no_posts = refl

hidden_alone : paginated blog (post (codes "a") (pair (codes "hidden") (bool true) no_pairs) ∷ index value.Nil ∷ [])
    ≡ Ok (post (codes "a") (pair (codes "hidden") (bool true) no_pairs) ∷ index value.Nil ∷ [])
hidden_alone = refl

off : paginated (config nil) (posts (index value.Nil ∷ [])) ≡ Ok (posts (index value.Nil ∷ []))
off = refl

-- a path that leads out of the output

abbrev outside : Config
outside = config (hash (pair (codes "paginate") (int (pos 2)) (pair (codes "paginate_path") (text (codes "../p:num")) no_pairs)))

no_destination : paginated outside (posts (index value.Nil ∷ [])) ≡ Err (fault_at fault.Config (codes "_config.yml"))
unfolding digits with_pages
no_destination = refl
