-- What the variables of a site rest on: where all of this is the same, so are they.
use Rattle.std.specs.Prelude.{◌≡◌, ℕ, nat_eq, Bool, List, codes, map}
use Rattle.std.specs.List.{ends_with}
use Rattle.site_base.specs.Plain.{Plain}
use Rattle.site_base.specs.View.{plain}
use Rattle.site_base.specs.declared.item_name.ItemName.{ItemName}
use Rattle.site_config.specs.Forms.{setting}
use Rattle.site_items.specs.declared.static_file.StaticFile.{StaticFile}
use Rattle.site_reader.specs.declared.site.Site.{Site}
use Rattle.site_reader.specs.declared.site_item.SiteItem.{SiteItem}
use Rattle.site_variables.specs.declared.basis.Basis.{Basis}
use Rattle.site_variables.specs.declared.basis.CopyBasis.{CopyBasis}
use Rattle.site_variables.specs.declared.basis.ItemBasis.{ItemBasis}

-- of an item its name and group, whether its URL stands for a folder, its categories and its tags
pub record ItemFacts : Type 0 where
  pub name : ItemName
  pub group : ℕ
  pub is_folder : Bool
  pub categories : Plain
  pub tags : Plain

abbrev pub item_facts : SiteItem → ItemFacts
item_facts i = record {
  name = i.name;
  group = i.group;
  is_folder = ends_with nat_eq i.url (codes "/");
  categories = setting (codes "categories") (plain i.vars);
  tags = setting (codes "tags") (plain i.vars);
}

abbrev pub noted_facts : ItemBasis → ItemFacts
noted_facts b = record { name = b.name; group = b.group; is_folder = b.is_folder; categories = plain b.categories; tags = plain b.tags }

-- of a copied file its path and its URL
abbrev pub copy_basis : StaticFile → CopyBasis
copy_basis file = record { path = file.path; url = file.url }

-- and the whole mapping of the configuration
pub record IsOn (basis : Basis) (site : Site) : Type 0 where
  pub all : basis.all ≡ site.config.all
  pub copies : basis.copies ≡ map copy_basis site.statics
  pub items : map noted_facts basis.items ≡ map item_facts site.items
