-- Views that only tests use: one in which nothing is found, and one of four items.
use Rattle.std.specs.Prelude.{◌≡◌, ℕ, ◌==◌, pos, codes, if◌then◌else◌, IsTrue, refl}
use Rattle.std.proofs.Common.{subst}
use Rattle.site_base.specs.Plain.{Plain, nil, int, text}
use Rattle.read_record.specs.declared.key.Key.{Key}
use Rattle.read_record.specs.declared.key.Key.TheVariants.{Content, Output, Var, SiteVar, Data, Moment}
use Rattle.read_record.specs.Forms.{has_form, IsFormed}
use Rattle.read_record.specs.Queries.{Reply, View, Known, Missing}

abbrev pub blank_view : View
blank_view Moment = Known (int (pos 0))
blank_view k = Known nil

formed-at : (k : Key) (v w : Plain) → IsTrue (has_form k v) → v ≡ w → IsTrue (has_form k w)
formed-at k v w h e = subst (λ x. IsTrue (has_form k x)) e h

pub blank-formed : IsFormed blank_view
blank-formed (Var name x) v h = refl
blank-formed (SiteVar x) v h = refl
blank-formed (Data keys) v h = refl
blank-formed Moment v h = formed-at Moment (int (pos 0)) v refl (cc)
blank-formed k v h = formed-at k nil v refl (cc)

-- ---- a view of four items, the parts of one path

-- the variables of an item
abbrev pub item_reply : ℕ → Reply
item_reply part =
    if part == 0 then Known (text (codes "b"))
    else if part == 1 then Known (text (codes "a"))
    else if part == 2 then Known nil
    else Missing 7

abbrev pub item_view : View
item_view (Var name x) = item_reply name.part
item_view (Content name) = Known (text (codes "c"))
item_view (Output name) = Known (text (codes "o"))
item_view Moment = Known (int (pos 0))
item_view k = Known nil

pub item-formed : IsFormed item_view
item-formed (Var name x) v h = refl
item-formed (Content name) v h = formed-at (Content name) (text (codes "c")) v refl (cc)
item-formed (Output name) v h = formed-at (Output name) (text (codes "o")) v refl (cc)
item-formed (SiteVar x) v h = refl
item-formed (Data keys) v h = refl
item-formed Moment v h = formed-at Moment (int (pos 0)) v refl (cc)
item-formed k v h = formed-at k nil v refl (cc)
