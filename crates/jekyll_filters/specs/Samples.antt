-- A view of a small site, which only tests use: some variables of the site, and the path of an item for each of its variables.
use Rattle.std.specs.Prelude.{◌≡◌, ℕ, pos, List, codes, if◌then◌else◌, IsTrue, refl}
use Rattle.std.proofs.Common.{subst}
use Rattle.std.specs.Str.{bytes_eq}
use Rattle.site_base.specs.Plain.{Plain, nil, int, text}
use Rattle.read_record.specs.declared.key.Key.{Key}
use Rattle.read_record.specs.declared.key.Key.TheVariants.{Var, SiteVar, Data, Moment}
use Rattle.read_record.specs.Forms.{has_form, IsFormed}
use Rattle.read_record.specs.Queries.{View, Known}

abbrev pub site_value : List ℕ → Plain
site_value x =
    if bytes_eq x (codes "baseurl") then text (codes "/blog/")
    else if bytes_eq x (codes "url") then text (codes "http://a.b")
    else if bytes_eq x (codes "timezone") then text (codes "+02:00")
    else nil

abbrev pub site_view : View
site_view (SiteVar x) = Known (site_value x)
site_view (Var name x) = Known (text name.path)
site_view Moment = Known (int (pos 86400))
site_view k = Known nil

formed-at : (k : Key) (v w : Plain) → IsTrue (has_form k v) → v ≡ w → IsTrue (has_form k w)
formed-at k v w h e = subst (λ x. IsTrue (has_form k x)) e h

pub site-formed : IsFormed site_view
site-formed (Var name x) v h = refl
site-formed (SiteVar x) v h = refl
site-formed (Data keys) v h = refl
site-formed Moment v h = formed-at Moment (int (pos 86400)) v refl (cc)
site-formed k v h = formed-at k nil v refl (cc)
